-- An opened desk, and the keys on its disk.
use Rattle.std.proofs.Common.{◌≡◌, ◌⊎◌, inl, inr, ℕ, ◌≤◌, List, [], ◌++◌, length, take, drop, refl, sym, ap, ◌∙◌, subst, arith}
use Rattle.std.proofs.Math.Seq.{take-append_seam, drop-append_seam}
use Rattle.std.specs.declared.option.Option.{Option}
use Rattle.std.specs.declared.option.Option.TheVariants.{Some}
use Rattle.std.specs.declared.result.Result.{Result}
use Rattle.std.specs.declared.result.Result.TheVariants.{Ok, Err}
use Rattle.std.specs.Option.{ForSome}
use Rattle.road_io.specs.declared.disk.Disk.{Ghosts}
use Rattle.road_io.specs.Disk.{Stays}
use Rattle.road_io.specs.Moments.{AtEachMoment}
use Rattle.road_io.proofs.MomentLaws.{continued}
use Rattle.lms_tree.specs.Signatures.{KeyOf}
use Rattle.desk_areas.specs.Faults.{IsBadBlock}
use Rattle.desk_areas.specs.Layout.{IsOpen, IsCurrent, base_of, kind_at, secret_at}
use Rattle.desk_areas.specs.declared.errors.StartError.{StartError}
use Rattle.desk_areas.specs.declared.errors.StartError.TheVariants as start
use Rattle.desk_areas.proofs.Growth.{one_current}
use Rattle.desk_areas.specs.Blank.{HasKey}
use Rattle.key_desk.specs.Desk.{HasAreas, IsSound}
use Rattle.key_desk.specs.declared.desk.Desk.{Desk}
use Rattle.key_desk.proofs.Counts.{key_here}
use Rattle.command_files.specs.Endings.{Ending, NoEnd}
use Rattle.command_files.specs.declared.fault.Fault.{Fault}
use Rattle.command_files.specs.declared.ended.Conclusion.{Conclusion}
use Rattle.desk_areas.specs.Faults.{IsUsable}
use Rattle.command_desks.specs.Opening.{EndsOpening, IsKeyOn, HasBlocks}
use Rattle.octet_text.specs.Want.{no_memory}

-- the block of the last open area is that of the desk's key
key_block : (desk : Desk) (c : List ℕ) → HasAreas desk c → HasKey desk.key (base_of c (length desk.earlier)) c
key_block desk c areas = subst (λ (k : KeyOf). HasKey k (base_of c (length desk.earlier)) c) (key_here desk (length desk.earlier) refl) (areas.keys (length desk.earlier) (omega arith))

pub named_on : (desk : Desk) → IsSound desk → length desk.key.i ≡ 16
named_on desk sound = subst (λ (k : KeyOf). length k.i ≡ 16) (key_here desk (length desk.earlier) refl) (sound.named (length desk.earlier) (omega arith))

pub current_on : (desk : Desk) (c : List ℕ) → HasAreas desk c → IsCurrent c (length desk.earlier)
current_on desk c areas = areas.current

pub kind_on : (desk : Desk) (c : List ℕ) → HasAreas desk c → kind_at c (base_of c (length desk.earlier)) ≡ desk.key.kind
kind_on desk c areas = let has = key_block desk c areas in has.kind

pub secret_on : (desk : Desk) (c : List ℕ) → HasAreas desk c → secret_at c (base_of c (length desk.earlier)) ≡ desk.key.i ++ desk.key.seed
secret_on desk c areas = let has = key_block desk c areas in has.secret

-- the key of the desk is in the last open area
abbrev pub key_on : (desk : Desk) (c : List ℕ) → IsSound desk → HasAreas desk c → IsKeyOn c desk.key
key_on desk c sound areas = record {
  area = length desk.earlier;
  current = current_on desk c areas;
  kind = kind_on desk c areas;
  secret = secret_on desk c areas;
  named = named_on desk sound;
}

-- an opened desk
abbrev pub opened : {X : Type 0} → X → Result X StartError
opened desk = Ok desk

-- the disk of an opened desk has a key that can be used
pub usable_by : {X : Type 0} (content : Option (List ℕ)) (desk : X) (view : Desk) → HasBlocks content view
    → ForSome content (λ c. IsOpen c → IsBadBlock c → (opened desk ≡ Err start.BadBlock) ⊎ ((opened desk ≡ Err start.DiskFault) ⊎ (opened desk ≡ Err (start.Memory no_memory)))) → ForSome content IsUsable
usable_by content desk view blocks else_bad c is = record {
  open_gate = (blocks c is).0;
  good_block = λ bad. elim (else_bad c is (blocks c is).0 bad) [ inl e ↦ cc | inr other ↦ elim other [ inl e ↦ cc | inr e ↦ cc ] ];
}

-- two lists whose prefixes have equal lengths have equal halves
append_halves : (a b c d : List ℕ) → length a ≡ length b → a ++ c ≡ b ++ d → (a ≡ b) × (c ≡ d)
append_halves a b c d long is = (
  sym (take-append_seam a c) ∙ ap (λ n. take n (a ++ c)) long ∙ ap (take (length b)) is ∙ take-append_seam b d,
  sym (drop-append_seam a c) ∙ ap (λ n. drop n (a ++ c)) long ∙ ap (drop (length b)) is ∙ drop-append_seam b d,
)

-- the last open area of a disk has one key
pub same_owner : (c : List ℕ) (a b : KeyOf) → IsKeyOn c a → IsKeyOn c b → a ≡ b
same_owner c a b h k =
    let here : h.area ≡ k.area = one_current c h.area k.area h.current k.current in
    let halves = append_halves a.i b.i a.seed b.seed (h.named ∙ sym k.named) (sym h.secret ∙ ap (λ (n : ℕ). secret_at c (base_of c n)) here ∙ k.secret) in
    parts a b (sym h.kind ∙ ap (λ (n : ℕ). kind_at c (base_of c n)) here ∙ k.kind) halves.0 halves.1
  where
    parts : (a b : KeyOf) → a.kind ≡ b.kind → a.i ≡ b.i → a.seed ≡ b.seed → a ≡ b
    parts a b e f g =
        ap (λ x. record { kind = x; i = a.i; seed = a.seed }) e ∙ ap (λ x. record { kind = b.kind; i = x; seed = a.seed }) f ∙ ap (λ x. record { kind = b.kind; i = b.i; seed = x }) g

-- two consecutive calls that change no image
pub stays_twice : {D : Type 0} (g : Ghosts D) (old mid new : D) → AtEachMoment g old mid Stays → AtEachMoment g mid new Stays → AtEachMoment g old new Stays
stays_twice g old mid new first second = continued g old mid new Stays Stays Stays first second (λ d i at is. is) (λ d e i at after is step. subst (λ x. Stays x i) is step)

-- if the desk does not open, the command ends, whatever would follow
pub shut : (content : Option (List ℕ)) (Next : Ending) (o : Result Conclusion Fault) (text : List ℕ) → EndsOpening content NoEnd o text → EndsOpening content Next o text
shut content Next o text (inl h) = inl h
shut content Next o text (inr (inl h)) = inr (inl h)
shut content Next o text (inr (inr h)) = absurd h.1

-- over the contents of a disk, a desk opens in exactly one way
pub one_opening : (content : List ℕ) (Next : Ending) (o e : Result Conclusion Fault) (s t : List ℕ) → (Next o s → Next e t → o ≡ e)
    → EndsOpening (Some content) Next o s → EndsOpening (Some content) Next e t → o ≡ e
one_opening content Next o e s t one (inl a) (inl b) = a.0 ∙ sym b.0
one_opening content Next o e s t one (inl a) (inr (inl b)) = absurd (a.1 content refl (b.1 content refl).0)
one_opening content Next o e s t one (inl a) (inr (inr b)) = absurd (a.1 content refl (b.0 content refl).open_gate)
one_opening content Next o e s t one (inr (inl a)) (inl b) = absurd (b.1 content refl (a.1 content refl).0)
one_opening content Next o e s t one (inr (inl a)) (inr (inl b)) = a.0 ∙ sym b.0
one_opening content Next o e s t one (inr (inl a)) (inr (inr b)) = absurd ((b.0 content refl).good_block (a.1 content refl).1)
one_opening content Next o e s t one (inr (inr a)) (inl b) = absurd (b.1 content refl (a.0 content refl).open_gate)
one_opening content Next o e s t one (inr (inr a)) (inr (inl b)) = absurd ((a.0 content refl).good_block (b.1 content refl).1)
one_opening content Next o e s t one (inr (inr a)) (inr (inr b)) = one a.1 b.1
