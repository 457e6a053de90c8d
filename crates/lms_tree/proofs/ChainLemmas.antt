-- A chain file reads back as it was encoded.
use Rattle.std.proofs.Common.{◌≡◌, ◌⊎◌, inl, inr, ℕ, zero, suc, ◌+◌, ◌-◌, ◌<◌, ◌≤◌, ◌==◌, Bool, true, false, cond, List, [], ◌∷◌, ◌++◌, length, get_or, Result, Ok, Err, refl, sym, ap, subst, ◌∙◌, append_assoc, append-nil, length-append, arith, nat_eq}
use Rattle.std.specs.List.{flat_map}
use Rattle.std.specs.Int.{w16, to_be_bytes}
use Rattle.std.proofs.lemmas.Bool.{eqb-true, ne_eqb}
use Rattle.std.proofs.lemmas.List.Concat.{flat_map-cons}
use Rattle.octet_text.specs.Left.{Left}
use Rattle.octet_text.specs.Exact.{IsBytes, Took, IsExact}
use Rattle.octet_text.specs.declared.errors.ReadError.{ReadError}
use Rattle.octet_text.specs.declared.errors.ReadError.TheVariants as errors
use Rattle.octet_text.specs.Format.{◌>>=◌, Format, RowsFit, Fails, Reads, IsFound, ReadsAll, ended, whole, seq, octets, any_octets, string, u16, between}
use Rattle.octet_text.proofs.Fields.{octets_exact, u16_exact, behind_exact, mapped_exact, seq_exact, string_exact}
use Rattle.lms_tree.specs.declared.links.Link.{Link}
use Rattle.lms_tree.specs.ChainFiles.{link_name, make_link, link_parts, link_row, many_at, many, chain_file}

told : (b : Bool) → (b ≡ true) ⊎ (b ≡ false)
told true = inl refl
told false = inr refl

bound : {A B : Type 0} (r : Result A ℕ) (k : A → Result B ℕ) (y : B) → (r >>= k) ≡ Ok y → (x : A) × (r ≡ Ok x) × (k x ≡ Ok y)
bound (Ok x) k y e = (x, refl, e)
bound (Err d) k y e = absurd cc

one_ok : {A : Type 0} (x y : A) → ◌≡◌ {A = Result A ℕ} (Ok x) (Ok y) → x ≡ y
one_ok x y e = cc

took_then : (a : Left) (x : List ℕ) (b : Left) (y : List ℕ) (c : Left) → Took a x b → Took b y c → Took a (x ++ y) c
took_then a x b y c p q = record {
  parts = p.parts ∙ ap (λ (t : List ℕ). x ++ t) q.parts ∙ sym (append_assoc x y c.text);
  place = omega (arith, p.place, q.place, length-append x y);
  rest_fits = q.rest_fits;
}

empty_is : (xs : List ℕ) → length xs ≡ 0 → xs ≡ []
empty_is [] e = refl
empty_is (x ∷ xs) e = absurd (omega arith)

if_ok : {A : Type 0} (b : Bool) (x y : A) (e : ℕ) → cond b (Ok x) (Err e) ≡ Ok y → (b ≡ true) × (x ≡ y)
if_ok true x y e h = (refl, cc)
if_ok false x y e h = absurd cc

nonzero : (m : ℕ) → 0 < m → nat_eq m 0 ≡ false
nonzero m lt = ne_eqb m 0 (λ e. omega (arith, lt, e))

-- ---- as many values as the octets encode

module _ {A : Type 0} (f : Format A) where
  -- the octets from which several values were read
  abbrev Found : ℕ → Left → List A × Left → Type 0
  Found n left z = Took left (flat_map f.spell z.0) z.1 × ((length z.0 ≤ n) × RowsFit (λ _. f) (λ _. 0) 0 z.0)

  many_found : IsExact f → (n : ℕ) (left : Left) (xs : List A) (rest : Left) → IsBytes left.text → many_at f n left ≡ Ok (xs, rest) → Found n left (xs, rest)
  many_found ex zero left xs rest fits e = subst (Found 0 left) (one_ok ([], left) (xs, rest) e) (record { parts = refl; place = omega arith; rest_fits = fits }, (omega arith, tt))
  many_found ex (suc n) left xs rest fits e = elim (told (nat_eq (length left.text) 0)) [
    | inl none ↦ subst (Found (suc n) left) (one_ok ([], left) (xs, rest) (rw none at e)) (record { parts = refl; place = omega arith; rest_fits = fits }, (omega arith, tt))
    | inr some ↦
        let h : (f.read left >>= λ x. many_at f n x.1 >>= λ ys. Ok (x.0 ∷ ys.0, ys.1)) ≡ Ok (xs, rest) = rw some at e in
        let b = bound (f.read left) (λ x. many_at f n x.1 >>= λ ys. Ok (x.0 ∷ ys.0, ys.1)) (xs, rest) h in
        let c = bound (many_at f n b.0.1) (λ ys. Ok (b.0.0 ∷ ys.0, ys.1)) (xs, rest) b.2 in
        let o = ex.found left b.0.0 b.0.1 fits b.1 in
        let r = many_found ex n b.0.1 c.0.0 c.0.1 o.0.rest_fits c.1 in
        let all : Took left (flat_map f.spell (b.0.0 ∷ c.0.0)) c.0.1 = subst (λ (t : List ℕ). Took left t c.0.1) (sym (flat_map-cons f.spell b.0.0 c.0.0)) (took_then left (f.spell b.0.0) b.0.1 (flat_map f.spell c.0.0) c.0.1 o.0 r.0) in
        let few : length (b.0.0 ∷ c.0.0) ≤ suc n = omega (arith, r.1.0) in
        subst (Found (suc n) left) (one_ok (b.0.0 ∷ c.0.0, c.0.1) (xs, rest) c.2) (all, (few, (o.1, r.1.1)))
  ]

  -- a value whose encoding is not empty is read back
  many_again : IsExact f → ((x : A) → f.Fits x → 0 < length (f.spell x)) → (n : ℕ) (xs : List A) (at : ℕ) → length xs ≤ n → RowsFit (λ _. f) (λ _. 0) 0 xs
      → many_at f n (record { at = at; text = flat_map f.spell xs }) ≡ Ok (xs, record { at = at + length (flat_map f.spell xs); text = [] })
  many_again ex some zero [] at few fits = ap (λ (p : ℕ). Ok ([], record { at = p; text = [] })) (omega arith)
  many_again ex some zero (x ∷ xs) at few fits = absurd (omega arith)
  many_again ex some (suc n) [] at few fits = ap (λ (p : ℕ). Ok ([], record { at = p; text = [] })) (omega arith)
  many_again ex some (suc n) (x ∷ xs) at few fits =
      let text : List ℕ = flat_map f.spell (x ∷ xs) in
      let cons : flat_map f.spell (x ∷ xs) ≡ f.spell x ++ flat_map f.spell xs = flat_map-cons f.spell x xs in
      let long : length (f.spell x ++ flat_map f.spell xs) ≡ length (f.spell x) + length (flat_map f.spell xs) = length-append (f.spell x) (flat_map f.spell xs) in
      let test : nat_eq (length (f.spell x ++ flat_map f.spell xs)) 0 ≡ false = nonzero (length (f.spell x ++ flat_map f.spell xs)) (omega (arith, long, some x fits.0)) in
      let first : f.read (record { at = at; text = f.spell x ++ flat_map f.spell xs }) ≡ Ok (x, record { at = at + length (f.spell x); text = flat_map f.spell xs }) = ex.again x at (flat_map f.spell xs) fits.0 in
      let rest = many_again ex some n xs (at + length (f.spell x)) (omega (arith, few)) fits.1 in
      let place : (at + length (f.spell x)) + length (flat_map f.spell xs) ≡ at + length (f.spell x ++ flat_map f.spell xs) = omega (arith, long) in
      let read : many_at f (suc n) (record { at = at; text = f.spell x ++ flat_map f.spell xs }) ≡ Ok (x ∷ xs, record { at = at + length (f.spell x ++ flat_map f.spell xs); text = [] })
      = rw (test, first, rest) (ap (λ (p : ℕ). Ok (x ∷ xs, record { at = p; text = [] })) place) in
      subst (λ (t : List ℕ). many_at f (suc n) (record { at = at; text = t }) ≡ Ok (x ∷ xs, record { at = at + length t; text = [] })) (sym cons) read

  pub whole_found : IsExact f → (n : ℕ) (text : List ℕ) (xs : List A) → IsBytes text → whole (many f n) text ≡ Ok xs → (many f n).Fits xs × (text ≡ flat_map f.spell xs)
  whole_found ex n text xs fits e =
      let b = bound (many_at f n (record { at = 0; text = text })) ended xs e in
      let g = if_ok (nat_eq (length b.0.1.text) 0) b.0.0 xs b.0.1.at b.2 in
      let o = many_found ex n (record { at = 0; text = text }) b.0.0 b.0.1 fits b.1 in
      let none : b.0.1.text ≡ [] = empty_is b.0.1.text (eqb-true (length b.0.1.text) 0 g.0) in
      let parts : text ≡ flat_map f.spell b.0.0 = o.0.parts ∙ ap (λ (t : List ℕ). flat_map f.spell b.0.0 ++ t) none ∙ append-nil (flat_map f.spell b.0.0) in
      subst (λ (z : List A). (many f n).Fits z × (text ≡ flat_map f.spell z)) g.1 (o.1, parts)

  pub whole_again : IsExact f → ((x : A) → f.Fits x → 0 < length (f.spell x)) → (n : ℕ) (xs : List A) → (many f n).Fits xs → whole (many f n) (flat_map f.spell xs) ≡ Ok xs
  whole_again ex some n xs fits = ap (λ (q : Result (List A × Left) ℕ). q >>= ended) (many_again ex some n xs 0 fits.0 fits.1)

-- ---- links

link_exact : IsExact link_row
link_exact =
    behind_exact link_name _ (mapped_exact make_link link_parts (seq (octets 56 any_octets) (λ _. string (u16 (between 0 1452))))
    (seq_exact (octets 56 any_octets) (λ _. string (u16 (between 0 1452))) (octets_exact 56 any_octets) (λ _. string_exact (u16 (between 0 1452)) (u16_exact (between 0 1452)))) (λ p fits. refl) (λ link. refl))

link_some : (link : Link) → link_row.Fits link → 0 < length (link_row.spell link)
link_some link fits = omega arith

pub links_found : (text : List ℕ) (r : Result (List Link) ReadError) → IsBytes text → Reads (λ l. l) r (whole chain_file text) → IsFound (λ l. l) chain_file text r
links_found text (Ok xs) fits given = whole_found link_row link_exact 7 text xs fits given
links_found text (Err e) fits given = tt

pub links_all : (text : List ℕ) (r : Result (List Link) ReadError) → Reads (λ l. l) r (whole chain_file text) → ReadsAll (λ l. l) chain_file text r
links_all text r given y fits is =
    subst (λ (q : Result (List Link) ℕ). Reads (λ l. l) r q) (ap (λ (t : List ℕ). whole chain_file t) is ∙ whole_again link_row link_exact link_some 7 y fits) given

-- ---- the loop that reads

-- the rows read so far, and the rows still to be read
abbrev pub put_front : {A : Type 0} → List A → List A × Left → Result (List A × Left) ℕ
put_front front x = Ok (front ++ x.0, x.1)

-- the values still to be read complete the values that all steps give
abbrev pub Begun : {A : Type 0} → Format A → List A → ℕ → Left → Result (List A × Left) ℕ → Type 0
Begun f front n left total = (many_at f n left >>= put_front front) ≡ total

unfronted : {A : Type 0} (r : Result (List A × Left) ℕ) → (r >>= put_front []) ≡ r
unfronted (Ok x) = refl
unfronted (Err e) = refl

regroup : {A : Type 0} (front : List A) (x : A) (read : Result (List A × Left) ℕ) → ((read >>= λ ys. Ok (x ∷ ys.0, ys.1)) >>= put_front front) ≡ (read >>= put_front (front ++ x ∷ []))
regroup {A} front x (Ok y) = ap (λ (ns : List A). Ok (ns, y.1)) (sym (append_assoc front (x ∷ []) y.0))
regroup front x (Err f) = refl

module _ {A : Type 0} (f : Format A) where
  pub begins : (count : ℕ) (left : Left) → Begun f [] (count - 0) left (many_at f count left)
  begins count left = let k : count - 0 ≡ count = omega arith in rw k (unfronted (many_at f count left))

  -- no octet is left
  pub stops : (front : List A) (count i : ℕ) (left : Left) (total : Result (List A × Left) ℕ) → i < count → nat_eq (length left.text) 0 ≡ true → Begun f front (count - i) left total → total ≡ Ok (front, left)
  stops front count i left total lt none so_far =
      let k : count - i ≡ suc (count - (i + 1)) = omega arith in
      let one : (many_at f (count - i) left >>= put_front front) ≡ Ok (front, left) = rw (k, none) (ap (λ (ns : List A). Ok (ns, left)) (append-nil front)) in
      sym so_far ∙ one

  pub goes_on : (front : List A) (count i : ℕ) (left : Left) (x : A) (mid : Left) (total : Result (List A × Left) ℕ) → i < count → nat_eq (length left.text) 0 ≡ false → f.read left ≡ Ok (x, mid)
      → Begun f front (count - i) left total → Begun f (front ++ x ∷ []) (count - (i + 1)) mid total
  goes_on front count i left x mid total lt some h so_far =
      let k : count - i ≡ suc (count - (i + 1)) = omega arith in
      let one : (many_at f (count - i) left >>= put_front front) ≡ (many_at f (count - (i + 1)) mid >>= put_front (front ++ x ∷ [])) = rw (k, some, h) (regroup front x (many_at f (count - (i + 1)) mid)) in
      sym one ∙ so_far

  pub fails : (e : ReadError) (front : List A) (count i : ℕ) (left : Left) (total : Result (List A × Left) ℕ) → i < count → nat_eq (length left.text) 0 ≡ false → Fails e (f.read left)
      → Begun f front (count - i) left total → Fails e total
  fails (errors.Memory _) front count i left total lt some h so_far = tt
  fails (errors.Malformed m) front count i left total lt some h so_far =
      let k : count - i ≡ suc (count - (i + 1)) = omega arith in
      let one : (many_at f (count - i) left >>= put_front front) ≡ Err m.at = rw (k, some, h) refl in
      sym so_far ∙ one

  pub is_done : (front : List A) (count i : ℕ) (left : Left) (total : Result (List A × Left) ℕ) → count ≤ i → Begun f front (count - i) left total → total ≡ Ok (front, left)
  is_done front count i left total le so_far =
      let k : count - i ≡ 0 = omega arith in
      let one : (many_at f (count - i) left >>= put_front front) ≡ Ok (front, left) = rw k (ap (λ (ns : List A). Ok (ns, left)) (append-nil front)) in
      sym so_far ∙ one

-- each value of a list that fits
pub rows_fit : {A : Type 0} (f : Format A) (xs : List A) (i : ℕ) (d : A) → i < length xs → RowsFit (λ _. f) (λ _. 0) 0 xs → f.Fits (get_or xs i d)
rows_fit f [] i d lt fits = absurd (omega arith)
rows_fit f (x ∷ xs) zero d lt fits = fits.0
rows_fit f (x ∷ xs) (suc i) d lt fits = rows_fit f xs i d (omega (arith, lt)) fits.1

-- one more value that fits
pub rows_push : {A : Type 0} (f : Format A) (xs : List A) (x : A) → RowsFit (λ _. f) (λ _. 0) 0 xs → f.Fits x → RowsFit (λ _. f) (λ _. 0) 0 (xs ++ x ∷ [])
rows_push f [] x fits fit = (fit, tt)
rows_push f (first ∷ xs) x fits fit = (fits.0, rows_push f xs x fits.1 fit)

-- ---- a whole file

-- a cursor at the first octet
at_start : (text : List ℕ) (left : Left) → left.at ≡ 0 → left.text ≡ text → many_at link_row 7 left ≡ many_at link_row 7 (record { at = 0; text = text })
at_start text left at is =
    ap (λ (a : ℕ). many_at link_row 7 (record { at = a; text = left.text })) at ∙ ap (λ (t : List ℕ). many_at link_row 7 (record { at = 0; text = t })) is

told_whole : (text : List ℕ) (left : Left) (read : Result (List Link × Left) ℕ) → left.at ≡ 0 → left.text ≡ text → many_at link_row 7 left ≡ read → whole chain_file text ≡ (read >>= ended)
told_whole text left read at is h = ap (λ (q : Result (List Link × Left) ℕ). q >>= ended) (sym (at_start text left at is) ∙ h)

pub whole_fails : (text : List ℕ) (left : Left) (e : ReadError) → left.at ≡ 0 → left.text ≡ text → Fails e (many_at link_row 7 left) → Fails e (whole chain_file text)
whole_fails text left (errors.Memory _) at is h = tt
whole_fails text left (errors.Malformed m) at is h = told_whole text left (Err m.at) at is h

ended_here : (links : List Link) (rest : Left) (b : Bool) → nat_eq (length rest.text) 0 ≡ b → ended (links, rest) ≡ cond b (Ok links) (Err rest.at)
ended_here links rest b is = ap (λ (t : Bool). cond t (Ok links) (Err rest.at)) is

-- octets are left after seven links
pub whole_left : (text : List ℕ) (left : Left) (links : List Link) (rest : Left) → left.at ≡ 0 → left.text ≡ text → many_at link_row 7 left ≡ Ok (links, rest) → nat_eq (length rest.text) 0 ≡ false → whole chain_file text ≡ Err rest.at
whole_left text left links rest at is h some = told_whole text left (Ok (links, rest)) at is h ∙ ended_here links rest false some

-- or no octets are left
pub whole_read : (text : List ℕ) (left : Left) (links : List Link) (rest : Left) → left.at ≡ 0 → left.text ≡ text → many_at link_row 7 left ≡ Ok (links, rest) → nat_eq (length rest.text) 0 ≡ true → whole chain_file text ≡ Ok links
whole_read text left links rest at is h none = told_whole text left (Ok (links, rest)) at is h ∙ ended_here links rest true none
