-- The stages, the branches and all parts behind the certificate itself, counted one after another.
--   gens_beyond, pairs_beyond, links_beyond     where the count of a stage goes beyond the limit
--   stage_total                  the count of a stage
--   as_stage                     a stage in other words
--   orbit_only, both_total       that of the stages of a branch;  orbit_beyond, meet_beyond: where it goes beyond the limit
--   forms_beyond, starts_beyond, rounds_beyond     where that of all does
--   all_few                      it doesn't
use Rattle.std.proofs.Math.Path.{subst₃}
use Rattle.std.proofs.Common.{◌≡◌, ℕ, zero, suc, ◌<◌, ◌≤◌, List, [], ◌∷◌, ◌++◌, map, length, refl, sym, ap, subst, ◌∙◌, arith, append_assoc}
use Rattle.std.specs.List.{sum_by}
use Rattle.std.proofs.lemmas.List.{append-nil}
use Rattle.algebra.specs.Fraction.{Fraction}
use Rattle.polynomials.specs.Terms.{Terms}
use Rattle.machines.specs.Elimination.{free_part}
use Rattle.loops.specs.Program.{Expr, Program}
use Rattle.rounds.specs.Start.{start_list}
use Rattle.expansion.specs.Counts.{most_terms}
use Rattle.corollaries.specs.Counts.{IsStageCounted}
use Rattle.corollaries.specs.Full.{FullCertificate, orbit, meet}
use Rattle.corollaries.specs.Parts.{Part, in_forms, in_start, at_end, form_parts, start_parts, round_parts, stage_parts, branch_parts}
use Rattle.corollaries.specs.Representation.{pairs_of}
use Rattle.corollaries.specs.Stage.{Stage, Place, in_list, in_gens, in_pairs, in_links, below, places}
use Rattle.cert_checker.specs.Further.{further_parts}
use Rattle.cert_checker.specs.LongParts.{IsTotal, IsFirstBeyond, row_terms, place_terms, part_terms, AreFew}
use Rattle.cert_checker.proofs.PartTotals.{total_none, total_then, beyond_in, beyond_first, total_map, beyond_map, total_free}

-- ---- a stage
module _ (gs qs : List (Terms Fraction)) {s : Stage} (k : ℕ) (hs : List (Terms Fraction))
    (counts : IsStageCounted k (length hs) s) (t : ℕ) (few : t ≤ most_terms) where
  abbrev terms : Place → ℕ
  terms = place_terms gs qs s

  abbrev of_gens : ℕ → ℕ
  of_gens = row_terms gs qs s.gens s.list

  abbrev of_pairs : ℕ → ℕ
  of_pairs = row_terms [] [] s.pairs s.list

  abbrev of_links : ℕ → ℕ
  of_links = row_terms [] [] s.links s.out

  abbrev lists : List Place
  lists = map in_list (below (length s.list))

  abbrev gens : List Place
  gens = map in_gens (below (length hs))

  abbrev pairs : List Place
  pairs = map in_pairs (below (length (pairs_of (length s.list))))

  abbrev links : List Place
  links = map in_links (below (length (free_part k s.list)))

  lists_total : IsTotal terms t lists t
  lists_total = total_map terms in_list t (below (length s.list))
      (total_free (λ i. terms (in_list i)) t (below (length s.list)) few (λ i. refl))

  pub gens_beyond : (i : ℕ) → IsFirstBeyond of_gens t
      (below (length s.gens)) i → IsFirstBeyond terms t (places k hs s) (in_gens i)
  gens_beyond i b = beyond_in terms t t lists (pairs ++ links) refl
      lists_total (beyond_map terms in_gens i (subst (λ n. IsFirstBeyond of_gens t (below n) i)
      counts.gens b))

  module _ {u : ℕ} (made : IsTotal of_gens t (below (length s.gens)) u) where
    gens_total : IsTotal terms t (lists ++ gens) u
    gens_total = total_then terms t t u lists gens lists_total
        (total_map terms in_gens t (below (length hs))
        (subst (λ n. IsTotal of_gens t (below n) u) counts.gens made))

    pub pairs_beyond : (i : ℕ) → IsFirstBeyond of_pairs u
        (below (length s.pairs)) i → IsFirstBeyond terms t (places k hs s) (in_pairs i)
    pairs_beyond i b = beyond_in terms t u (lists ++ gens) links
        (sym (append_assoc lists gens (pairs ++ links))) gens_total (beyond_map terms in_pairs i
        (subst (λ n. IsFirstBeyond of_pairs u (below n) i) counts.pairs b))

    module _ {v : ℕ} (paired : IsTotal of_pairs u (below (length s.pairs)) v) where
      pairs_total : IsTotal terms t ((lists ++ gens) ++ pairs) v
      pairs_total = total_then terms t u v (lists ++ gens) pairs gens_total
          (total_map terms in_pairs u (below (length (pairs_of (length s.list))))
          (subst (λ n. IsTotal of_pairs u (below n) v) counts.pairs paired))

      in_order : places k hs s ≡ ((lists ++ gens) ++ pairs) ++ links
      in_order = sym (append_assoc (lists ++ gens) pairs links
          ∙ append_assoc lists gens (pairs ++ links))

      pub links_beyond : (i : ℕ) → IsFirstBeyond of_links v
          (below (length s.links)) i → IsFirstBeyond terms t (places k hs s) (in_links i)
      links_beyond i b = beyond_in terms t v ((lists ++ gens) ++ pairs) []
          (in_order ∙ ap (λ ps. ((lists ++ gens) ++ pairs) ++ ps) (sym (append-nil links)))
          pairs_total (beyond_map terms in_links i (subst (λ n. IsFirstBeyond of_links v (below n)
          i) counts.links b))

      pub stage_total : (w : ℕ) → IsTotal of_links v
          (below (length s.links)) w → IsTotal terms t (places k hs s) w
      stage_total w linked = subst (λ ps. IsTotal terms t ps w) (sym in_order)
          (total_then terms t v w ((lists ++ gens) ++ pairs) links pairs_total
          (total_map terms in_links v (below (length (free_part k s.list)))
          (subst (λ n. IsTotal of_links v (below n) w) counts.links linked)))

-- in other words
pub as_stage : (W : (Place → ℕ) → List Place → Type 0) (gs ks qs ls : List (Terms Fraction))
    (s z : Stage)
    → gs ≡ ks → qs ≡ ls → s ≡ z
    → ((k : ℕ) (hs : List (Terms Fraction)) → IsStageCounted k (length hs) s → W
    (place_terms gs qs s) (places k hs s))
    → {k : ℕ} (hs : List (Terms Fraction)) → IsStageCounted k (length hs) z
    → W (place_terms ks ls z) (places k hs z)
as_stage W gs ks qs ls s z e f g h {k = k} hs counts =
    subst₃ (λ x y w. W (place_terms x y w) (places k hs w)) e f g
    (h k hs (subst (IsStageCounted k (length hs)) (sym g) counts))

-- ---- a branch
module _ (program : Program (Expr ℕ)) (c : FullCertificate) where
  abbrev f : Part → ℕ
  f = part_terms program c

  pub orbit_only : (r b t u : ℕ) → b ≡ 0 → IsTotal f t (stage_parts program c r b orbit) u
      → IsTotal f t (branch_parts program c r b) u
  unfolding branch_parts
  orbit_only r zero t u e h = h
  orbit_only r (suc b) t u e h = absurd (omega (arith, e))

  pub both_total : (r b t u v : ℕ) → 0 < b → IsTotal f t (stage_parts program c r b orbit) u
      → IsTotal f u (stage_parts program c r b meet) v → IsTotal f t (branch_parts program c r b) v
  unfolding branch_parts
  both_total r zero t u v l g h = absurd (omega (arith, l))
  both_total r (suc b) t u v l g h = total_then f t u v (stage_parts program c r (suc b) orbit)
      (stage_parts program c r (suc b) meet) g h

  pub orbit_beyond : (r b t : ℕ) {a : Part} → IsFirstBeyond f t (stage_parts program c r b orbit) a
      → IsFirstBeyond f t (branch_parts program c r b) a
  unfolding branch_parts
  orbit_beyond r zero t h = h
  orbit_beyond r (suc b) t {a = a} h = beyond_first f t (stage_parts program c r (suc b) meet) a h

  pub meet_beyond : (r b t u : ℕ) (a : Part) → 0 < b
      → IsTotal f t (stage_parts program c r b orbit) u
      → IsFirstBeyond f u (stage_parts program c r b meet) a
      → IsFirstBeyond f t (branch_parts program c r b) a
  unfolding branch_parts
  meet_beyond r zero t u a l g h = absurd (omega (arith, l))
  meet_beyond r (suc b) t u a l g h = beyond_in f t u _ []
      (ap (λ ps. stage_parts program c r (suc b) orbit ++ ps)
      (sym (append-nil (stage_parts program c r (suc b) meet)))) g h

  -- ---- all parts
  abbrev forms : List Part
  forms = form_parts program c

  abbrev starts : List Part
  starts = start_parts program c

  abbrev rounds : List Part
  rounds = round_parts program c

  abbrev row : ℕ → ℕ
  row = row_terms [] [] c.start_links c.start_out

  pub forms_beyond : (b : ℕ) → IsFirstBeyond (λ j. f (in_forms j)) 0
      (below (length program.branches)) b → IsFirstBeyond f 0 (further_parts program c) (in_forms b)
  forms_beyond b h = beyond_first f 0 (starts ++ (rounds ++ at_end ∷ [])) (in_forms b)
      (beyond_map f in_forms b h)

  module _ {t : ℕ} (formed : IsTotal (λ j. f (in_forms j)) 0 (below (length program.branches)) t)
      (count : length c.start_links ≡ length (start_list program)) where
    forms_total : IsTotal f 0 forms t
    forms_total = total_map f in_forms 0 (below (length program.branches)) formed

    pub starts_beyond : (i : ℕ) → IsFirstBeyond row t (below (length c.start_links)) i
        → IsFirstBeyond f 0 (further_parts program c) (in_start i)
    starts_beyond i h = beyond_in f 0 t forms
        (rounds ++ at_end ∷ []) refl forms_total (beyond_map f in_start i
        (subst (λ n. IsFirstBeyond row t (below n) i) count h))

    module _ {u : ℕ} (started : IsTotal row t (below (length c.start_links)) u) where
      starts_total : IsTotal f 0 (forms ++ starts) u
      starts_total = total_then f 0 t u forms starts forms_total
          (total_map f in_start t (below (length (start_list program)))
          (subst (λ n. IsTotal row t (below n) u) count started))

      pub rounds_beyond : {a : Part} → IsFirstBeyond f u rounds a
          → IsFirstBeyond f 0 (further_parts program c) a
      rounds_beyond {a = a} h = beyond_in f 0 u (forms ++ starts)
          (at_end ∷ []) (sym (append_assoc forms starts (rounds ++ at_end ∷ []))) starts_total h

      pub all_few : (v : ℕ) → IsTotal f u rounds v → AreFew program c
      all_few v h =
          let all = total_then f 0 v v ((forms ++ starts) ++ rounds) (at_end ∷ [])
          (total_then f 0 u v (forms ++ starts) rounds starts_total h)
          (total_none f v h.1) in
          let is = ap (sum_by f) (append_assoc (forms ++ starts) rounds (at_end ∷ [])
          ∙ append_assoc forms starts (rounds ++ at_end ∷ [])) in
          let total = all.0 in
          let few = all.1 in
          omega (arith, is, total, few)
