-- Counting one query after another.
use Rattle.std.proofs.Common.{◌≡◌, ℕ, suc, ◌+◌, ◌<◌, List, [], ◌∷◌, ◌++◌, arith, ap, sym, ◌∙◌, subst, append_assoc, append-nil, length, length-append}
use Rattle.std.specs.List.{sum_by, concat}
use Rattle.std.proofs.Common.{take, get_or}
use Rattle.std.proofs.Math.Seq.{take-suc}
use Rattle.std.proofs.lemmas.List.Folds.{concat-append}
use Rattle.std.proofs.lemmas.List.Sums.{sum_by-append}
use Rattle.octet_text.specs.Sha.{HoldsText}
use Rattle.book_model.specs.declared.items.Query.{Query}
use Rattle.proof_octets.specs.declared.publication.Publication.{Publication}
use Rattle.route_survey.specs.Surveys.{IsAnswered, AllAnswered, length_of}
use Rattle.route_survey.specs.Tallies.{CountsOne, CountsAll}
use Rattle.route_survey.specs.declared.tally.Tally.{Tally}

all_more : (p : Publication) (queries : List Query) (replies : List (List ℕ)) (q : Query) (reply : List ℕ) → AllAnswered p queries replies → IsAnswered p q reply → AllAnswered p (queries ++ q ∷ []) (replies ++ reply ∷ [])
all_more p [] [] q reply all one = (one, tt)
all_more p [] (r ∷ rs) q reply all one = absurd all
all_more p (x ∷ xs) [] q reply all one = absurd all
all_more p (x ∷ xs) (r ∷ rs) q reply all one = (all.0, all_more p xs rs q reply all.1 one)

pub counts_none : (p : Publication) (t : Tally) → CountsAll p [] t t
counts_none p t = record {
  replies = [];
  answered = tt;
  accepted = omega arith;
  total = omega arith;
  digested = λ text h. subst (λ x. HoldsText t.hasher x) (sym (append-nil text)) h;
}

pub counts_more : (p : Publication) (queries more : List Query) (q : Query) (a b c : Tally) → more ≡ queries ++ q ∷ [] → CountsAll p queries a b → CountsOne p q b c → CountsAll p more a c
counts_more p queries more q a b c is all one = subst (λ qs. CountsAll p qs a c) (sym is) (record {
  replies = all.replies ++ one.reply ∷ [];
  answered = all_more p queries all.replies q one.reply all.answered one.answered;
  accepted = omega (arith, all.accepted, one.accepted, length-append queries (q ∷ []));
  total = (
      let last : sum_by (length_of p.parts) (q ∷ []) ≡ length_of p.parts q = omega arith in
      omega (arith, all.total, one.total, sum_by-append (length_of p.parts) queries (q ∷ []))
      );
  digested = λ text h. (
      let same : (text ++ concat all.replies) ++ one.reply ≡ text ++ concat (all.replies ++ one.reply ∷ []) =
      append_assoc text (concat all.replies) one.reply
      ∙ ap (λ t. text ++ t) (ap (λ t. concat all.replies ++ t) (sym (append-nil one.reply)) ∙ sym (concat-append all.replies (one.reply ∷ []))) in
      subst (λ t. HoldsText c.hasher t) same (one.digested (text ++ concat all.replies) (all.digested text h))
      );
})

pub counts_step : (p : Publication) (queries : List Query) (i : ℕ) (d : Query) (a b c : Tally) → i < length queries → CountsAll p (take i queries) a b → CountsOne p (get_or queries i d) b c → CountsAll p (take (i + 1) queries) a c
counts_step p queries i d a b c lt all one =
    let next : i + 1 ≡ suc i = omega arith in
    counts_more p (take i queries) (take (i + 1) queries) (get_or queries i d) a b c (ap (λ n. take n queries) next ∙ take-suc queries i d lt) all one
