-- The lists of nodes, read one after another behind the empty list of the start.
--   ListsSoFar names path vs i found      of the values vs, those before place i were read as found, behind an empty list
--   lists_start, lists_more, lists_fault  the steps of such a loop;  lists_are: what is read in the end
--   counts_are, start_empty, lists_over   how many polynomials each has, that the first has none, and that they are over the variables
--   entries_next                          the entries from a place on
use Rattle.std.proofs.Common.{◌≡◌, ℕ, suc, ◌+◌, ◌<◌, ◌≤◌, List, [], ◌∷◌, ◌++◌, length, get_or, drop, map, Ok, Err, refl, sym, ap, ap₂, subst, ◌∙◌, add-one, arith, Vec, Global}
use Rattle.std.specs.Prelude.{All, vec_len}
use Rattle.std.specs.List.{AllZip}
use Rattle.std.proofs.lemmas.List.{append-nil, drop_all}
use Rattle.serde_json.specs.View.{view, items_view}
use Rattle.serde_json.specs.declared.value.Value.{Value}
use Rattle.algebra.specs.Fraction.{Fraction}
use Rattle.polynomials.specs.Terms.{Terms}
use Rattle.poly.specs.Standing.{AllStandFor}
use Rattle.poly.specs.Seen.{terms_each}
use Rattle.poly.proofs.Standing.{stands_length, stands_over}
use Rattle.loop_model.specs.FracPoly.{FracPoly}
use Rattle.cert_form.specs.Form.{after, part, each}
use Rattle.cert_form.specs.Faults.{IsRead, IfFault}
use Rattle.cert_form.specs.declared.error.CertError.{CertError}
use Rattle.cert_form.specs.Cert.{Polys, ArePolysOf, HaveArity, polys_in}
use Rattle.cert_form.proofs.Each.{after-nil, drop_one, each_first, one_more, one_fault}
use Rattle.cert_form.proofs.Zip.{zip_push, all_from_left}
use Rattle.program_checker.specs.Form.{count_of, entries, list_at}
use Rattle.program_checker.specs.ReadAs.{AreListsBehind}

pub entries_next : (vs : List Value) (i : ℕ) (v : Value) → i < length vs → v ≡ get_or vs i v
    → entries (items_view (drop i vs))
    ≡ count_of (view v) + entries (items_view (drop (i + 1) vs))
entries_next vs i v l is =
    ap (λ xs. entries (items_view xs)) (drop_one vs i l is)
    ∙ ap (λ k. count_of (view v) + entries (items_view (drop k vs))) (sym (add-one i))

pub entries_none : (vs : List Value) (i : ℕ) → length vs ≤ i → entries (items_view (drop i vs)) ≡ 0
entries_none vs i l = ap (λ xs. entries (items_view xs)) (drop_all i vs l)

pub record ListsSoFar (names : List (List ℕ)) (path : List ℕ) (vs : List Value) (i : ℕ)
    (found : Vec Polys Global) : Type 0 where
  pub count : vec_len found ≡ suc i
  pub raws : List (List (Terms Fraction))
  pub alike : AreListsBehind (length names) found raws
  pub rest : each (list_at names) path 0 (items_view vs)
      ≡ after raws (each (list_at names) path i (items_view (drop i vs)))

module _ (names : List (List ℕ)) (path : List ℕ) (vs : List Value) where
  pub lists_start : (first : Polys) (found : Vec Polys Global) → first.items ≡ []
      → found.items ≡ first ∷ [] → vec_len found ≡ 1 → ListsSoFar names path vs 0 found
  lists_start first found none is count = record {
    count = count;
    raws = [];
    alike = subst (λ xs. AllZip (ArePolysOf (length names)) xs ([] ∷ [])) (sym is)
        (subst (λ ps. AllStandFor (length names) ps []) (sym none) tt, tt);
    rest = after-nil (each (list_at names) path 0 (items_view vs));
  }

  module _ (i : ℕ) (at : List ℕ) (v : Value) (found : Vec Polys Global) (lt : i < length vs)
      (is : v ≡ get_or vs i v) (at_is : at ≡ part path i)
      (before : ListsSoFar names path vs i found) where
    pub lists_fault : (e : CertError) → IfFault e (λ f. list_at names at (view v) ≡ Err f)
        → IfFault e (λ f. each (list_at names) path 0 (items_view vs) ≡ Err f)
    lists_fault = one_fault _ _ _ before.rest (each_first (list_at names) path vs i lt is at_is)

    pub lists_more : (list : Polys) (next : Vec Polys Global)
        → IsRead (ArePolysOf (length names)) list (list_at names at (view v))
        → next.items ≡ found.items ++ list ∷ [] → vec_len next ≡ vec_len found + 1
        → ListsSoFar names path vs (i + 1) next
    lists_more list next right more longer = record {
      count = omega (arith, longer, before.count);
      raws = before.raws ++ right.raw ∷ [];
      alike = subst (λ xs. AllZip (ArePolysOf (length names)) xs
          ([] ∷ before.raws ++ right.raw ∷ []))
          (sym more) (zip_push (ArePolysOf (length names)) found.items ([] ∷ before.raws) list
          right.raw before.alike right.alike);
      rest = rw add-one (one_more _ _ _ before.rest
          (each_first (list_at names) path vs i lt is at_is) right.is);
    }

  pub lists_are : {i : ℕ} {found : Vec Polys Global} → ListsSoFar names path vs i found
      → length vs ≤ i → IsRead (AreListsBehind (length names)) found
      (each (list_at names) path 0 (items_view vs))
  lists_are {i = i} all past = record {
    raw = all.raws;
    is = all.rest
        ∙ ap (λ xs. after all.raws (each (list_at names) path i (items_view xs)))
        (drop_all i vs past)
        ∙ ap Ok (append-nil all.raws);
    alike = all.alike;
  }

-- how many polynomials each list has
pub counts_are : (m : ℕ) (lists : List Polys) (raws : List (List (Terms Fraction)))
    → AllZip (ArePolysOf m) lists raws → map vec_len lists ≡ map length raws
counts_are m [] [] h = refl
counts_are m [] (r ∷ raws) h = absurd h
counts_are m (l ∷ lists) [] h = absurd h
counts_are m (l ∷ lists) (r ∷ raws) h =
    ap₂ (λ k ks. k ∷ ks) (l.ok.0 ∙ stands_length m l.items r h.0) (counts_are m lists raws h.1)

-- the list of the start is empty
pub start_empty : (m : ℕ) (lists : List Polys) (raws : List (List (Terms Fraction)))
    → AllZip (ArePolysOf m) lists ([] ∷ raws) → get_or (map polys_in lists) 0 [] ≡ []
start_empty m [] raws h = absurd h
start_empty m (l ∷ lists) raws h = go l.items h.0
  where
    go : (ps : List FracPoly) → AllStandFor m ps [] → terms_each ps ≡ []
    go [] h = refl
    go (p ∷ ps) h = absurd h

-- each of them is over the variables
pub lists_over : (m : ℕ) (lists : List Polys) (raws : List (List (Terms Fraction)))
    → AllZip (ArePolysOf m) lists raws → All (HaveArity m) lists
lists_over m lists raws h = all_from_left (ArePolysOf m) (HaveArity m)
    (λ ps qs h. stands_over m ps.items qs h) lists raws h
