use Rattle.std.proofs.Common.{◌≡◌, ◌≤◌, ℕ, [], ◌∷◌, ◌++◌, List, length, map, arith, refl, ap, sym, ◌∙◌}
use Rattle.std.specs.List.{All}
use Rattle.std.proofs.lemmas.List.Elements.{All-push, All-same}
use Rattle.std.proofs.lemmas.Result.{err_from_is_err_and}
use Rattle.road_leaf.specs.declared.node_leaves.Note.{Note}
use Rattle.road_leaf.specs.Held.{extra_at, said, IsWithin}
use Rattle.road_leaf.proofs.NoteLaws.{none_noted, before_noted, last_noted, same_noted, all_within, padded_within, padded_before}
use Rattle.road_leaf.proofs.node_leaves.put_note.Goals as goal

pub returns-in-Plain-clause-before : goal.returns-in-Plain-clause-before
returns-in-Plain-clause-before c = λ i lt. padded_before c.args.codes.now.items c.args.index i c.args.notes.now.items c.truncate.new.self.items c.truncate.new.self.items c.truncate.ensures.items refl lt

pub returns-in-Plain-clause-here : goal.returns-in-Plain-clause-here
returns-in-Plain-clause-here c =
    let few : length c.truncate.new.self.items ≤ c.args.index = omega (arith, c.truncate.ensures.len, c.truncate.new.self.ok.0) in
    none_noted c.args.codes.now.items c.truncate.new.self.items c.args.index few ∙ sym c.in-Plain.is

pub returns-in_err-pad : goal.returns-in_err-pad
returns-in_err-pad c =
    let codes : List ℕ = c.args.codes.now.items in
    let p = err_from_is_err_and c.from_residual.result c.from_residual.ensures.1 in
    record {
      within = padded_within (length codes) c.args.index c.args.notes.now.items c.truncate.new.self.items c.pad.new.notes.items c.truncate.ensures.items (c.pad.ensures.within (length codes)) c.requires.within;
      before = λ i lt. padded_before codes c.args.index i c.args.notes.now.items c.truncate.new.self.items c.pad.new.notes.items c.truncate.ensures.items (c.pad.ensures.same codes i) lt;
      here = rw p.1 tt;
    }

pub returns-in_err-note : goal.returns-in_err-note
returns-in_err-note c =
    let codes : List ℕ = c.args.codes.now.items in
    let padded : List Note = c.pad.new.notes.items in
    let w : All (IsWithin (length codes)) padded = padded_within (length codes) c.args.index c.args.notes.now.items c.truncate.new.self.items padded c.truncate.ensures.items (c.pad.ensures.within (length codes)) c.requires.within in
    let p = err_from_is_err_and c.from_residual-in_err-note.result c.from_residual-in_err-note.ensures.1 in
    record {
      within = all_within codes c.noted.new.codes.items padded c.noted.ensures.begins w;
      before = λ i lt. ap (λ es. extra_at es i) (same_noted codes c.noted.new.codes.items padded c.noted.ensures.begins w)
          ∙ padded_before codes c.args.index i c.args.notes.now.items c.truncate.new.self.items padded c.truncate.ensures.items (c.pad.ensures.same codes i) lt;
      here = rw p.1 tt;
    }

pub returns-in_err-push : goal.returns-in_err-push
returns-in_err-push c =
    let codes : List ℕ = c.args.codes.now.items in
    let new : List ℕ = c.noted.new.codes.items in
    let padded : List Note = c.pad.new.notes.items in
    let w : All (IsWithin (length codes)) padded = padded_within (length codes) c.args.index c.args.notes.now.items c.truncate.new.self.items padded c.truncate.ensures.items (c.pad.ensures.within (length codes)) c.requires.within in
    let p = err_from_is_err_and c.from_residual-in_err-push.result c.from_residual-in_err-push.ensures.1 in
    record {
      within = All-same (IsWithin (length new)) c.push.new.list.items padded c.in_err-push.ensures.items (all_within codes new padded c.noted.ensures.begins w);
      before = λ i lt. ap (λ ns. extra_at (map (said new) ns) i) c.in_err-push.ensures.items
          ∙ (ap (λ es. extra_at es i) (same_noted codes new padded c.noted.ensures.begins w)
          ∙ padded_before codes c.args.index i c.args.notes.now.items c.truncate.new.self.items padded c.truncate.ensures.items (c.pad.ensures.same codes i) lt);
      here = rw p.1 tt;
    }

pub returns : goal.returns
returns c =
    let codes : List ℕ = c.args.codes.now.items in
    let new : List ℕ = c.noted.new.codes.items in
    let padded : List Note = c.pad.new.notes.items in
    let note : Note = c.in_ok-note.note in
    let w : All (IsWithin (length codes)) padded = padded_within (length codes) c.args.index c.args.notes.now.items c.truncate.new.self.items padded c.truncate.ensures.items (c.pad.ensures.within (length codes)) c.requires.within in
    let all : c.args.index ≡ length padded = omega (arith, c.in_ok-pad.ensures.count, c.pad.new.notes.ok.0) in
    record {
      within = All-same (IsWithin (length new)) c.push.new.list.items (padded ++ note ∷ []) c.in_ok-push.ensures.items
          (All-push (IsWithin (length new)) padded note (all_within codes new padded c.noted.ensures.begins w) c.in_ok-note.ensures.within);
      before = λ i lt. ap (λ ns. extra_at (map (said new) ns) i) c.in_ok-push.ensures.items
          ∙ (before_noted new padded note i (omega (arith, all, lt))
          ∙ (ap (λ es. extra_at es i) (same_noted codes new padded c.noted.ensures.begins w)
          ∙ padded_before codes c.args.index i c.args.notes.now.items c.truncate.new.self.items padded c.truncate.ensures.items (c.pad.ensures.same codes i) lt));
      here = ap (λ ns. extra_at (map (said new) ns) c.args.index) c.in_ok-push.ensures.items
          ∙ (last_noted new padded note c.args.index all ∙ c.in_ok-note.ensures.says);
    }
