-- The roads of arcs, one arc after another.
use Rattle.std.proofs.Common.{◌≡◌, ℕ, ◌+◌, ◌<◌, ◌≤◌, nat_lt, arith, true, false, List, [], ◌∷◌, ◌++◌, length, take, get_or, map, refl, ap, sym, ◌∙◌}
use Rattle.std.specs.List.{filter}
use Rattle.std.proofs.lemmas.Bool.Decides.{nat_tests}
use Rattle.std.proofs.lemmas.Grind.{take_at_read}
use Rattle.std.proofs.lemmas.List.{append-nil}
use Rattle.std.proofs.lemmas.List.Elements.{filter-append}
use Rattle.road_map.specs.declared.parts.Road.{Road}
use Rattle.dimacs_reader.specs.declared.arc.Arc.{Arc}
use Rattle.dimacs_reader.specs.Dimacs.{road_of, roads_of}

map-append : {X Y : Type 0} (f : X → Y) (xs ys : List X) → map f (xs ++ ys) ≡ map f xs ++ map f ys
map-append f [] ys = refl
map-append f (x ∷ xs) ys = ap (λ t. f x ∷ t) (map-append f xs ys)

next : (arcs : List Arc) (i : ℕ) (d : Arc) → i < length arcs → roads_of (take (i + 1) arcs) ≡ roads_of (take i arcs) ++ roads_of (get_or arcs i d ∷ [])
unfolding roads_of
next arcs i d lt =
    let p = λ (arc : Arc). nat_lt arc.from arc.to in
    let last = get_or arcs i d ∷ [] in
    ap (λ (l : List Arc). map road_of (filter p l)) (take_at_read arcs i d lt).1
    ∙ ap (map road_of) (filter-append p (take i arcs) last)
    ∙ map-append road_of (filter p (take i arcs)) (filter p last)

pub none_yet : [] ≡ roads_of []
unfolding roads_of
none_yet = refl

one : (arc : Arc) → arc.from < arc.to → roads_of (arc ∷ []) ≡ road_of arc ∷ []
unfolding roads_of
one arc lt =
    let is : nat_lt arc.from arc.to ≡ true = grind (arith, nat_tests, lt) in
    rw is refl

none : (arc : Arc) → arc.to ≤ arc.from → roads_of (arc ∷ []) ≡ []
unfolding roads_of
none arc le =
    let is : nat_lt arc.from arc.to ≡ false = grind (arith, nat_tests, le) in
    rw is refl

-- an arc to a greater id gives a road
pub road_given : (arcs : List Arc) (i : ℕ) (d : Arc) (before after : List Road) (road : Road) → i < length arcs → (get_or arcs i d).from < (get_or arcs i d).to → before ≡ roads_of (take i arcs)
    → road ≡ road_of (get_or arcs i d) → after ≡ before ++ road ∷ [] → after ≡ roads_of (take (i + 1) arcs)
road_given arcs i d before after road lt less is here pushed =
    pushed
    ∙ (ap (λ t. t ++ road ∷ []) is
    ∙ (ap (λ t. roads_of (take i arcs) ++ t) (ap (λ (r : Road). r ∷ []) here ∙ sym (one (get_or arcs i d) less)) ∙ sym (next arcs i d lt)))

-- any other arc gives no road
pub road_withheld : (arcs : List Arc) (i : ℕ) (d : Arc) (before : List Road) → i < length arcs → (get_or arcs i d).to ≤ (get_or arcs i d).from → before ≡ roads_of (take i arcs) → before ≡ roads_of (take (i + 1) arcs)
road_withheld arcs i d before lt less is =
    is
    ∙ (sym (append-nil (roads_of (take i arcs)))
    ∙ (ap (λ t. roads_of (take i arcs) ++ t) (sym (none (get_or arcs i d) less)) ∙ sym (next arcs i d lt)))
