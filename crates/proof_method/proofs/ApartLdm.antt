-- Items gathered under LDM for ends without a route are judged good.
use Rattle.std.proofs.Common.{◌≡◌, ℕ, ◌+◌, not, IsTrue, Option, None, Some, IsSome, List, ◌⊎◌, inl, inr, refl, ap, sym, ◌∙◌}
use Rattle.std.specs.Option.{option_map}
use Rattle.road_leaf.specs.declared.leaf.Extra.TheVariants.{Near}
use Rattle.road_leaf.specs.declared.leaf.NodeLeaf.{NodeLeaf}
use Rattle.book_model.specs.declared.items.Query.{Query}
use Rattle.book_model.specs.declared.items.Items.{Items}
use Rattle.book_model.specs.Bounds.{vector_at}
use Rattle.book_model.specs.Books.{Ldm, Book, leaf}
use Rattle.proof_judge.specs.ItemWalks.{item_at, EndsLacking}
use Rattle.proof_judge.specs.Apart.{HasWay, apart_of, are_apart, open_ways}
use Rattle.proof_judge.proofs.AllWalks.{lacking_way}
use Rattle.proof_method.specs.Vectors.{AreVectors}
use Rattle.proof_method.specs.Apart.{IsEnd, WantedApart, IsGatheredApart}
use Rattle.proof_method.specs.Laws.{IsCompleteApart}
use Rattle.proof_method.proofs.CompleteApart.{begins_apart, leads_joins}
use Rattle.proof_method.proofs.CompleteLdm.{not_referred, same_vector}
use Rattle.proof_method.proofs.Completes.{not_both, no_item}
use Rattle.proof_method.proofs.Parts.{IsPart, part_reaches, leaf_at}
use Rattle.proof_method.proofs.RouteLaws.{have_arcs, items_of_map}

module _ (b : Book) (g : Items) (q : Query) (chosen : List ℕ) (are : AreVectors b.parts b.numbers.first chosen b.extra_of) (h : IsGatheredApart Ldm b q g) where
  -- the reference of an item is among the items
  has_reference : (u r e : ℕ) (n : NodeLeaf) → item_at g.nodes u ≡ Some n → n.extra ≡ Near r e → IsEnd q u ⊎ WantedApart Ldm b q u → IsSome (item_at g.nodes r)
  has_reference u r e n is x (inl end) = (h.nodes r).1 (inr (inr (u, n, e, inl end, leaf_at b g h.authentic u n is, x)))
  has_reference u r e n is x (inr (inl open')) = (h.nodes r).1 (inr (inr (u, n, e, inr open', leaf_at b g h.authentic u n is, x)))
  has_reference u r e n is x (inr (inr of)) = absurd (not_referred b chosen are g h.authentic u r e of.2 of.0 n of.1 is x of.4 of.5)

  has_all : (u r e : ℕ) (n : NodeLeaf) → item_at g.nodes u ≡ Some n → n.extra ≡ Near r e → IsSome (item_at g.nodes r)
  has_all u r e n is x = has_reference u r e n is x ((h.nodes u).0 (rw is refl))

  -- an item is apart from the end exactly if its leaf is
  same_apart : (u : ℕ) → IsSome (item_at g.nodes u) → are_apart (item_at g.nodes) (item_at g.nodes u) (item_at g.nodes q.to) ≡ are_apart (leaf b) (leaf b u) (leaf b q.to)
  same_apart u some =
      ap (λ v. apart_of v (vector_at (item_at g.nodes) (item_at g.nodes q.to))) (same_vector b g h.authentic has_all u some)
      ∙ ap (apart_of (vector_at (leaf b) (leaf b u))) (same_vector b g h.authentic has_all q.to ((h.nodes q.to).1 (inl (inr refl))))

  open_part : IsPart (open_ways (item_at g.nodes) q.to) (open_ways (leaf b) q.to)
  open_part u p out e lets = by_item (item_at g.nodes u) refl e
    where
      by_item : (o : Option NodeLeaf) → item_at g.nodes u ≡ o → option_map (λ (n : NodeLeaf). n.arcs) o ≡ Some out → (option_map (λ (n : NodeLeaf). n.arcs) (leaf b u) ≡ Some out) × IsTrue (not (are_apart (leaf b) (leaf b u) (leaf b q.to)))
      by_item None is e = cc
      by_item (Some n) is e =
          let some : IsSome (item_at g.nodes u) = rw is refl in
          (ap (option_map (λ (n : NodeLeaf). n.arcs)) (leaf_at b g h.authentic u n is) ∙ e, ap not (sym (same_apart u some)) ∙ lets)

  pub no_lack : (id : ℕ) → EndsLacking (open_ways (item_at g.nodes) q.to) q.from id → ⊥
  no_lack id l =
      let r : HasWay (open_ways (item_at g.nodes) q.to) q.from id × ((open_ways (item_at g.nodes) q.to).arcs id ≡ None) = lacking_way (open_ways (item_at g.nodes) q.to) q.from id l in
      not_both (item_at g.nodes id)
      ((h.nodes id).1 (inr (inl (r.0.0, part_reaches (open_ways (item_at g.nodes) q.to) (open_ways (leaf b) q.to) open_part q.from (r.0.0 + 1) id r.0.0 r.0.1))))
      (no_item (item_at g.nodes id) r.1)

pub complete_apart_ldm : IsCompleteApart Ldm
complete_apart_ldm b g q m is h = begins_apart Ldm b g q h (
  None,
  no_lack b g q is.0 is.1 h,
  (None, (λ d r. h.unjoined.2 d (leads_joins b g (open_ways (item_at g.nodes) q.to) (items_of_map b.parts g.nodes (open_ways (item_at g.nodes) q.to).lets (have_arcs b g h.authentic)) q.from q.to d h.unjoined.0 r)), refl),
)
