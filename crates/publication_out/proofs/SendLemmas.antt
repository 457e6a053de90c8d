-- Sending in pieces.
use Rattle.std.proofs.Common.{◌≡◌, ℕ, ◌+◌, ◌-◌, ◌*◌, ◌<◌, ◌≤◌, ◌⊎◌, inl, inr, min, List, ◌++◌, length, take, drop, refl, sym, ap, ◌∙◌, subst, arith, Option, [], append-nil, append_assoc}
use Rattle.std.specs.Prelude.{OnErr}
use Rattle.std.specs.declared.result.Result.{Result}
use Rattle.std.specs.declared.result.Result.TheVariants.{Ok, Err}
use Rattle.std.specs.Int.{div_ceil}
use Rattle.std.specs.Io.KnownBytes.{Appends}
use Rattle.std.proofs.lemmas.Bool.{cases_lt}
use Rattle.std.proofs.lemmas.Grind.{div_ceil_times}
use Rattle.std.proofs.lemmas.List.{take_all, take_at, take-take, drop-drop, length-drop, length-take-le}
use Rattle.std.proofs.Math.Seq.{take-add}
use Rattle.road_io.specs.Contents.{AppendsFront}
use Rattle.road_io.proofs.ToldLemmas.{Appends-++}
use Rattle.mirror_out.specs.Gone.{Adds, Falls, Holds, Parts}
use Rattle.mirror_out.specs.Mirrors.{Mirrors, Spreads}
use Rattle.mirror_out.proofs.Parting.{Parts-append, Parts-still, falls_before, falls_later, holds_more, holds_none}
use Rattle.mirror_out.proofs.Spreading.{Appends-none, Mirrors-none, Mirrors-append, Mirrors-spread}
use Rattle.publication_out.specs.Sent.{pieces_in, MirrorsFront, PartsAfter, PartsFront, PartsWhole}

-- what holds of every error
pub on_err : {T E : Type 0} (r : Result T E) (P : Type 0) → P → OnErr r P
on_err (Ok x) P p = tt
on_err (Err e) P p = p

one_more : (n c : ℕ) → n ≡ 4096 * div_ceil n 4096 → 0 < c → c ≤ 4096 → div_ceil (n + c) 4096 ≡ div_ceil n 4096 + 1
one_more n c full some few =
    let b = div_ceil_times (n + c) 4096 (omega arith) in
    omega (arith, b.0, b.1, full, some, few)

rising : (n m : ℕ) → n ≤ m → div_ceil n 4096 ≤ div_ceil m 4096
rising n m l =
    let a = div_ceil_times n 4096 (omega arith) in
    let b = div_ceil_times m 4096 (omega arith) in
    omega (arith, a.1, b.0, l)

module _ {M : Type 0} (octets : M → Option (List ℕ)) (label handed puts room faults : M → ℕ) where
  -- the pieces of some octets of a text were handed out, and these mirrors are gone
  abbrev pub PartsAt : List ℕ → ℕ → List M → List M → List M → Type 0
  PartsAt text n = PartsAfter octets label handed puts room faults text (div_ceil n 4096) (take n text)

  -- The first octets of a text are with the sink and with the mirrors that stay; those of the next piece
  -- are at the front of a buffer, and the others are left.
  pub record IsUnderWay (Room : Type 0) (text buffer left : List ℕ) (count : ℕ) (before now : Option (List ℕ)) (old kept gone_before gone_now : List M) : Type 0 where
    pub n : ℕ
    pub within : n ≤ length text
    pub written : Appends before now (take n text)
    pub took : Mirrors octets label handed puts room (div_ceil n 4096) (take n text) old kept
    pub full : (count ≡ 0) ⊎ (n ≡ 4096 * div_ceil n 4096)
    pub count_is : count ≡ min 4096 (length (drop n text))
    pub piece_is : take count buffer ≡ take count (drop n text)
    pub left_is : left ≡ drop count (drop n text)
    pub parted : Room → Adds gone_before gone_now (PartsAt text n old kept)

  pub begins : (Room : Type 0) (text first buffer old_buffer left : List ℕ) (count : ℕ) (taken : Option (List ℕ)) (mirrors gone : List M) → first ≡ text → length old_buffer ≡ 4096 → count ≡ min (length old_buffer) (length first)
      → buffer ≡ take count first ++ drop count old_buffer → left ≡ drop count first → IsUnderWay Room text buffer left count taken taken mirrors mirrors gone gone
  begins Room text first buffer old_buffer left count taken mirrors gone is size count_is buffer_is left_is = record {
    n = 0;
    within = omega arith;
    written = Appends-none taken;
    took = Mirrors-none octets label handed puts room mirrors;
    full = inr refl;
    count_is = omega (arith, count_is, size, ap length is);
    piece_is = ap (take count) buffer_is ∙ take_at (take count first) (drop count old_buffer) count (length-take-le count first (omega (arith, count_is))) ∙ ap (take count) is;
    left_is = left_is ∙ ap (drop count) is;
    parted = λ h. (
      [],
      sym (append-nil gone),
      Parts-still (Holds octets label handed puts room faults 0 []) (Falls octets label handed faults 4096 text 0) (holds_none octets label handed puts room faults) mirrors,
    );
  }

  -- one piece more was handed out
  one_piece : (text piece : List ℕ) (n count size : ℕ) → n ≡ 4096 * div_ceil n 4096 → div_ceil (n + count) 4096 ≡ div_ceil n 4096 + 1 → take (n + count) text ≡ take n text ++ piece → (old mid kept before now fallen : List M)
      → PartsAt text n old mid before → Parts (Holds octets label handed puts room faults 1 piece) (Falls octets label handed faults size piece 1) mid kept fallen → PartsAt text (n + count) old kept (before ++ fallen)
  one_piece text piece n count size full puts_is more old mid kept before now fallen first second =
      let d = div_ceil n 4096 in
      let whole : take n text ≡ take (4096 * d) text = ap (λ k. take k text) full in
      subst (λ x. PartsAfter octets label handed puts room faults text (div_ceil (n + count) 4096) x old kept (before ++ fallen)) (sym more)
      (subst (λ k. PartsAfter octets label handed puts room faults text k (take n text ++ piece) old kept (before ++ fallen)) (sym puts_is)
      (Parts-append (Holds octets label handed puts room faults d (take n text)) (Falls octets label handed faults 4096 text d)
      (Holds octets label handed puts room faults 1 piece) (Falls octets label handed faults size piece 1)
      (Holds octets label handed puts room faults (d + 1) (take n text ++ piece)) (Falls octets label handed faults 4096 text (d + 1))
      (holds_more octets label handed puts room faults d 1 (take n text) piece)
      (λ a b c. falls_later octets label handed puts room faults 4096 d (take n text) text size piece a b c whole)
      (λ a b. falls_before octets label handed puts room faults 4096 d (d + 1) text a b (omega arith))
      old mid kept before fallen first second))

  pub goes_on : (Room : Type 0) (text buffer buffer' left left' : List ℕ) (count count' : ℕ) (before now now' : Option (List ℕ)) (old mid kept : List M) (gone : List ℕ) (piece : List ℕ) (gone_before gone_now gone_next : List M) (size : ℕ)
      → 0 < count → length buffer ≡ 4096 → piece ≡ take count buffer → Appends now now' piece → Spreads octets label handed puts room 1 piece mid kept gone
      → count' ≡ min (length buffer) (length left) → buffer' ≡ take count' left ++ drop count' buffer → left' ≡ drop count' left
      → (Room → Adds gone_now gone_next (Parts (Holds octets label handed puts room faults 1 piece) (Falls octets label handed faults size piece 1) mid kept))
      → IsUnderWay Room text buffer left count before now old mid gone_before gone_now → IsUnderWay Room text buffer' left' count' before now' old kept gone_before gone_next
  goes_on Room text buffer buffer' left left' count count' before now now' old mid kept gone piece gone_before gone_now gone_next size some long_buffer piece_is writes spreads count_is' buffer_is' left_is' parts at =
      let n = at.n in
      let rest = length-drop n text in
      let few : count ≤ length (drop n text) = omega (arith, at.count_is) in
      let more : take (n + count) text ≡ take n text ++ piece = take-add n count text ∙ ap (λ x. take n text ++ x) (sym (piece_is ∙ at.piece_is)) in
      let left_at : left ≡ drop (n + count) text = at.left_is ∙ drop-drop count n text in
      let full : n ≡ 4096 * div_ceil n 4096 = ⊎_elim' at.full some in
      let puts_is : div_ceil (n + count) 4096 ≡ div_ceil n 4096 + 1 = one_more n count full some (omega (arith, at.count_is)) in
      let long : length left ≡ length text - (n + count) = ap length left_at ∙ length-drop (n + count) text in
      record {
        n = n + count;
        within = omega (arith, few, rest, at.within);
        written = subst (λ x. Appends before now' x) (sym more) (Appends-++ before now now' (take n text) piece at.written writes);
        took = subst (λ x. Mirrors octets label handed puts room (div_ceil (n + count) 4096) x old kept) (sym more)
            (subst (λ k. Mirrors octets label handed puts room k (take n text ++ piece) old kept) (sym puts_is)
            (Mirrors-append octets label handed puts room (div_ceil n 4096) 1 (take n text) piece old mid kept at.took (Mirrors-spread octets label handed puts room 1 piece mid kept gone spreads)));
        full = next n count count' (length text) full some (omega (arith, at.count_is, rest)) (omega (arith, count_is', long_buffer, long)) puts_is;
        count_is = omega (arith, count_is', long_buffer, ap length left_at);
        piece_is = ap (take count') buffer_is' ∙ take_at (take count' left) (drop count' buffer) count' (length-take-le count' left (omega (arith, count_is'))) ∙ ap (take count') left_at;
        left_is = left_is' ∙ ap (drop count') left_at;
        parted = λ h.
            let was = at.parted h in
            let now_too = parts h in (
              was.0 ++ now_too.0,
              now_too.1 ∙ ap (λ (x : List M). x ++ now_too.0) was.1 ∙ append_assoc gone_before was.0 now_too.0,
              one_piece text piece n count size full puts_is more old mid kept was.0 gone_next now_too.0 was.2 now_too.2,
            );
      }
    where
      ⊎_elim' : {n c : ℕ} → (c ≡ 0) ⊎ (n ≡ 4096 * div_ceil n 4096) → 0 < c → n ≡ 4096 * div_ceil n 4096
      ⊎_elim' h l = elim h [ inl z ↦ absurd (omega (arith, z, l)) | inr e ↦ e ]

      next : (n c c' t : ℕ) → n ≡ 4096 * div_ceil n 4096 → 0 < c → c ≡ min 4096 (t - n) → c' ≡ min 4096 (t - (n + c)) → div_ceil (n + c) 4096 ≡ div_ceil n 4096 + 1 → (c' ≡ 0) ⊎ (n + c ≡ 4096 * div_ceil (n + c) 4096)
      next n c c' t full some ec ec' ed = elim (cases_lt c 4096) [
        | inl less ↦ inl (omega (arith, less, ec, ec'))
        | inr whole ↦ inr (omega (arith, full, ed, whole, ec))
      ]

  -- nothing is left
  pub all_sent : (Room : Type 0) (text buffer left : List ℕ) (count : ℕ) (before now : Option (List ℕ)) (old kept gone_before gone_now : List M) → count ≡ 0 → IsUnderWay Room text buffer left count before now old kept gone_before gone_now
      → Appends before now text × Mirrors octets label handed puts room (pieces_in text) text old kept × (Room → Adds gone_before gone_now (PartsWhole octets label handed puts room faults text old kept))
  all_sent Room text buffer left count before now old kept gone_before gone_now none at =
      let end : at.n ≡ length text = omega (arith, at.within, at.count_is, none, length-drop at.n text) in
      let all : take at.n text ≡ text = take_all at.n text (omega (arith, end)) in (
        subst (λ x. Appends before now x) all at.written,
        subst (λ x. Mirrors octets label handed puts room (pieces_in text) x old kept) all (subst (λ k. Mirrors octets label handed puts room (div_ceil k 4096) (take at.n text) old kept) end at.took),
        λ h. let so = at.parted h in (
          so.0,
          so.1,
          subst (λ x. PartsAfter octets label handed puts room faults text (pieces_in text) x old kept so.0) all (subst (λ k. PartsAfter octets label handed puts room faults text (div_ceil k 4096) (take at.n text) old kept so.0) end so.2),
        ),
      )

  -- the sink failed
  pub front_sent : (Room : Type 0) (text buffer left : List ℕ) (count : ℕ) (before now now' : Option (List ℕ)) (old kept gone_before gone_now : List M) (piece : List ℕ) → piece ≡ take count buffer → AppendsFront now now' piece
      → IsUnderWay Room text buffer left count before now old kept gone_before gone_now
      → AppendsFront before now' text × MirrorsFront octets label handed puts room text before now' old kept × (Room → Adds gone_before gone_now (PartsFront octets label handed puts room faults text before now' old kept))
  front_sent Room text buffer left count before now now' old kept gone_before gone_now piece piece_is front at =
      let m = front.0 in
      let same : piece ≡ take count (drop at.n text) = piece_is ∙ at.piece_is in
      let size : length piece ≡ count = ap length same ∙ length-take-le count (drop at.n text) (omega (arith, at.count_is)) in
      let less : m ≤ count = omega (arith, front.1, size) in
      let part : take m piece ≡ take m (drop at.n text) = ap (take m) same ∙ take-take m count (drop at.n text) less in
      let both : take (at.n + m) text ≡ take at.n text ++ take m piece = take-add at.n m text ∙ ap (λ x. take at.n text ++ x) (sym part) in
      let within : at.n + m ≤ length text = omega (arith, less, at.count_is, length-drop at.n text, at.within) in
      let writes : Appends before now' (take (at.n + m) text) = subst (λ x. Appends before now' x) (sym both) (Appends-++ before now now' (take at.n text) (take m piece) at.written front.2) in (
        (at.n + m, within, writes),
        record { sent = at.n + m; within = within; written = writes; n = at.n; behind = omega arith; count = div_ceil at.n 4096; few = rising at.n (length text) at.within; took = at.took },
        λ h. let so = at.parted h in (
          so.0,
          so.1,
          record { sent = at.n + m; within = within; written = writes; n = at.n; behind = omega arith; count = div_ceil at.n 4096; few = rising at.n (length text) at.within; parts = so.2 },
        ),
      )
