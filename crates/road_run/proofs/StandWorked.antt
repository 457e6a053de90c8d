-- Where the texts of released signatures stand: at each moment of a call, within a step, and over a life.
use Rattle.std.proofs.Common.{◌≡◌, inl, inr, ℕ, zero, suc, ◌<◌, ◌≤◌, List, [], ◌∷◌, ◌++◌, refl, sym, ap, subst, ◌∙◌, arith}
use Rattle.std.proofs.lemmas.List.Elements.{All-nil}
use Rattle.std.specs.declared.option.Option.{Option}
use Rattle.road_io.specs.declared.disk.Disk.{Ghosts}
use Rattle.road_io.specs.Moments.{EachImage, Image}
use Rattle.desk_sight.specs.Looks.{Spends}
use Rattle.desk_sight.specs.declared.looking.Use.{Use}
use Rattle.key_desk.specs.Runs.{Crashed}
use Rattle.owner_commands.specs.Releases.{Release, IsReleasedFrom, AllStand, AreApart}
use Rattle.road_run.specs.Lives.{Run, given, Ran, Cut, Broke, Spent, SpentCut, StandAlong, StandWithin, NoneSignsTwice}
use Rattle.road_run.proofs.WorkedObjects.{Film, film, still, mirror, written, first, release, written_releases, empty_releases_nothing}
use Rattle.road_run.proofs.StepsWorked.{LifeOver, broke}

-- ---- texts that stand

abbrev StandsOver : Film → Film → List Release → Type 0
StandsOver old new before = StandAlong mirror.octets mirror.named mirror.handed mirror.puts mirror.room film old new before

-- no text stands wherever there is none to stand
none_stand : (old new : Film) → StandsOver old new []
none_stand old new k i from to is = All-nil (IsReleasedFrom i)

-- a released text stands where the image has signed it, and does not where an image has not
one_stands : StandsOver (still written) (still written) (release ∷ [])
one_stands k i from to is = subst (AllStand (release ∷ [])) (sym is) written_releases

one_falls : StandsOver (still written) (still []) (release ∷ []) → ⊥
one_falls stands = empty_releases_nothing (stands 0 [] (omega arith) (omega arith) refl)

-- also if only an image in between has not, though the first and the last have
abbrev blink : ℕ → List ℕ
blink zero = written
blink (suc zero) = []
blink (suc (suc k)) = written

abbrev early : Film
early = record { image = blink; clock = 0; faults = 0 }

abbrev late : Film
late = record { image = blink; clock = 2; faults = 0 }

one_falls_between : StandsOver early late (release ∷ []) → ⊥
one_falls_between stands = empty_releases_nothing (stands 1 [] (omega arith) (omega arith) refl)

one_stands_at_once : StandsOver early early (release ∷ [])
one_stands_at_once k i from to is = let e : k ≡ 0 = omega arith in subst (AllStand (release ∷ [])) (sym (is ∙ ap blink e)) written_releases

-- but an image from before the call does not matter
one_stands_behind : StandsOver late late (release ∷ [])
one_stands_behind k i from to is = let e : k ≡ 2 = omega arith in subst (AllStand (release ∷ [])) (sym (is ∙ ap blink e)) written_releases

-- ---- within a step

module _ {M : Type 0} (octets : M → Option (List ℕ)) (label handed puts room : M → ℕ) {D : Type 0} (g : Ghosts D) (old new called : D) (before : List Release) where
  -- an image of a moment in which some text does not stand
  pub record Lacks (from to : D) : Type 0 where
    pub moment : ℕ
    pub image : List ℕ
    pub later : g.clock from ≤ moment
    pub earlier : moment ≤ g.clock to
    pub is : g.image_at to moment image
    pub lacks : AllStand before image → ⊥

  -- of a run that ended, the texts stand at each moment up to its end
  module _ (run : Run octets label handed puts room g old new) (after : List Release) (more : after ≡ before ++ given octets label handed puts room g old new run) where
    ran_stands : StandAlong octets label handed puts room g old new before → StandWithin octets label handed puts room g old new before after (Ran run more)
    ran_stands stands = stands

    ran_falls : Lacks old new → StandWithin octets label handed puts room g old new before after (Ran run more) → ⊥
    ran_falls l stands = l.lacks (stands l.moment l.image l.later l.earlier l.is)

  -- of a run that a crash interrupts, at each moment to which the run might have come
  module _ (run : Run octets label handed puts room g old called) (k : ℕ) (from : g.clock old ≤ k) (to : k ≤ g.clock called) (crashed : Crashed g k called new) where
    cut_stands : StandAlong octets label handed puts room g old called before → StandWithin octets label handed puts room g old new before before (Cut called run k from to crashed refl)
    cut_stands stands = stands

    cut_falls : Lacks old called → StandWithin octets label handed puts room g old new before before (Cut called run k from to crashed refl) → ⊥
    cut_falls l stands = l.lacks (stands l.moment l.image l.later l.earlier l.is)

  -- of a crash between two runs, in each image that it leaves
  module _ (crashed : Crashed g (g.clock old) old new) where
    broke_stands : EachImage g new (AllStand before) → StandWithin octets label handed puts room g old new before before (Broke crashed refl)
    broke_stands stands = stands

    broke_falls : (image : List ℕ) → Image g new image → (AllStand before image → ⊥) → StandWithin octets label handed puts room g old new before before (Broke crashed refl) → ⊥
    broke_falls image is lacks stands = lacks (stands image is)

  -- of a look that spends a slot, at each moment up to its end, also if a crash interrupts it
  module _ (what : Use) (spends : Spends g what old new) where
    spent_stands : StandAlong octets label handed puts room g old new before → StandWithin octets label handed puts room g old new before before (Spent what spends refl)
    spent_stands stands = stands

    spent_falls : Lacks old new → StandWithin octets label handed puts room g old new before before (Spent what spends refl) → ⊥
    spent_falls l stands = l.lacks (stands l.moment l.image l.later l.earlier l.is)

  module _ (what : Use) (spends : Spends g what old called) (k : ℕ) (from : g.clock old ≤ k) (to : k ≤ g.clock called) (crashed : Crashed g k called new) where
    spent_cut_stands : StandAlong octets label handed puts room g old called before → StandWithin octets label handed puts room g old new before before (SpentCut what called spends k from to crashed refl)
    spent_cut_stands stands = stands

    spent_cut_falls : Lacks old called → StandWithin octets label handed puts room g old new before before (SpentCut what called spends k from to crashed refl) → ⊥
    spent_cut_falls l stands = l.lacks (stands l.moment l.image l.later l.earlier l.is)

-- ---- over a life

-- a life of one crash
abbrev life : (disk : Film) → LifeOver disk (release ∷ []) ((disk, release ∷ []) ∷ [])
life disk = (broke disk (release ∷ []), tt)

-- over a disk with the released text, no key signs twice
one_signs_once : NoneSignsTwice mirror.octets mirror.named mirror.handed mirror.puts mirror.room film (still written) (release ∷ []) ((still written, release ∷ []) ∷ []) (life (still written))
one_signs_once = (stands, stands, (All-nil (AreApart release), tt), tt)
  where
    stands : EachImage film (still written) (AllStand (release ∷ []))
    stands i is = subst (AllStand (release ∷ [])) (sym is) written_releases

-- over a disk without it, the released text does not stand
one_is_lost : NoneSignsTwice mirror.octets mirror.named mirror.handed mirror.puts mirror.room film (still []) (release ∷ []) ((still [], release ∷ []) ∷ []) (life (still [])) → ⊥
one_is_lost h = empty_releases_nothing (h.0 [] refl)

lost_after : NoneSignsTwice mirror.octets mirror.named mirror.handed mirror.puts mirror.room film (still []) (release ∷ []) ((still [], release ∷ []) ∷ []) (life (still [])) → ⊥
lost_after h = empty_releases_nothing (h.1 [] refl)

-- ---- two texts of one key

-- another text, with the key and the number of the released one
abbrev second : Release
second = record { key = release.key; slot = first; text = 2 ∷ []; octets = release.octets }

texts_differ : (a b : Release) → a ≡ b → a.text ≡ b.text
texts_differ a b e = ap (λ (r : Release). r.text) e

one_is_not_two : ◌≡◌ {A = List ℕ} (1 ∷ []) (2 ∷ []) → ⊥
one_is_not_two e = cc

-- the first index of a list with one entry
first_of_one : ◌<◌ 0 1
first_of_one = omega arith

two_are_not_apart : AreApart release second → ⊥
two_are_not_apart (inl keys) = keys refl
two_are_not_apart (inr (inl numbers)) = numbers refl
two_are_not_apart (inr (inr (equal, link))) = one_is_not_two (texts_differ release second equal)

-- so in no life are both released
two_sign_twice : NoneSignsTwice mirror.octets mirror.named mirror.handed mirror.puts mirror.room film (still written) (release ∷ second ∷ []) ((still written, release ∷ second ∷ []) ∷ []) (broke (still written) (release ∷ second ∷ []), tt) → ⊥
two_sign_twice h = two_are_not_apart (h.2.0 0 second first_of_one)
