use Rattle.std.proofs.Common.{◌≡◌, List, ℕ, [], get_or, length, refl, ap, ◌∙◌, sym, subst}
use Rattle.std.proofs.lemmas.List.{with_items_is}
use Rattle.merkle_cover.specs.Rising.{Growth, Takes}
use Rattle.merkle_cover.proofs.RisingLemmas.{takes-more}
use Rattle.merkle_cover.proofs.rising.Rising.push.Goals as goal

-- from the tree's fields to the contents that contracts see
seen : (hash : List ℕ → List ℕ) (fan : ℕ) (places : List ℕ) (texts : List (List ℕ)) (text : List ℕ) (new inside old : Growth) → inside ≡ old → (Takes hash fan places texts inside → get_or texts inside.pushed [] ≡ text → Takes hash fan places texts new)
    → Takes hash fan places texts old → get_or texts old.pushed [] ≡ text → Takes hash fan places texts new
seen hash fan places texts text new inside old e h =
    subst (λ (r : Growth). Takes hash fan places texts r → get_or texts r.pushed [] ≡ text → Takes hash fan places texts new) e h

pub returns-clause-takes : goal.returns-clause-takes
returns-clause-takes g c = λ fan places texts.
    let inside = c.self.inside in
    let long : length c.raise-self-inside.new.waiting ≡ inside.waiting.len = c.raise-self-inside.auto.waiting ∙ ap length c.deref_mut.ensures.value ∙ sym inside.waiting.ok.0 in
    seen g.H.Hasher.hash fan places texts c.args.text.now _ _ _ c.self.view_is (λ takes text.
    takes-more g.H.Hasher.hash texts fan places _ _ c.args.text.now c.leaf_digest-digest.result c.deref_mut.result.now c.raise-self-inside.new.waiting
    refl refl refl (ap (λ v. v.items) c.raise-self-inside.ensures.spots) c.deref_mut.ensures.value (with_items_is inside.waiting c.raise-self-inside.new.waiting long)
    text c.leaf_digest-digest.ensures takes (c.raise-self-inside.ensures.raised texts places))
