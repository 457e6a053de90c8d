use Rattle.desk_areas.proofs.Signed.{signed_listed, listed_signed}
use Rattle.desk_areas.proofs.laws.signed_lists_pairs.Goals as goal

pub returns : goal.returns
returns c image slot text = (listed_signed image slot text, signed_listed image slot text)
