-- The steps of a certificate, read one after another, each by its own transition.
--   StepsSoFar f path vs i found     of the values vs, those before place i were read as found, that at place j by f j
--   steps_start, steps_more, steps_fault     the steps of such a loop;  steps_are: what is read in the end
--   fits_more                        what each of some has that are indexed, and one more
use Rattle.std.proofs.Common.{◌≡◌, ◌⊎◌, inl, inr, ℕ, suc, ◌+◌, ◌<◌, ◌≤◌, List, [], ◌∷◌, ◌++◌, length, get_or, drop, Ok, Err, sym, ap, subst, ◌∙◌, add-one, arith, Vec, Global}
use Rattle.std.specs.List.{AllZip}
use Rattle.std.proofs.lemmas.List.{append-nil, drop_all, length_push, get_or_append_left, get_or_push}
use Rattle.serde_json.specs.Data.{Data}
use Rattle.serde_json.specs.View.{view, items_view}
use Rattle.serde_json.specs.declared.value.Value.{Value}
use Rattle.algebra.proofs.Basics.{below_or_last}
use Rattle.cert_form.specs.Form.{Reading, on, after, part}
use Rattle.cert_form.specs.Faults.{IsRead, IfFault}
use Rattle.cert_form.specs.declared.error.CertError.{CertError}
use Rattle.cert_form.proofs.Each.{after-nil, drop_one, one_more, one_fault}
use Rattle.cert_form.proofs.Zip.{zip_push}
use Rattle.program_checker.specs.Form.{RawRow, each_by}
use Rattle.program_checker.specs.ReadAs.{AreSameRows, AreSameSteps}
use Rattle.program_checker.specs.declared.cert.Row.{Row}

pub record StepsSoFar (f : ℕ → List ℕ → Data → Reading (List RawRow)) (path : List ℕ)
    (vs : List Value) (i : ℕ) (found : Vec (Vec Row Global) Global) : Type 0 where
  pub count : length found.items ≡ i
  pub raws : List (List RawRow)
  pub alike : AreSameSteps found raws
  pub rest : each_by f path 0 (items_view vs)
      ≡ after raws (each_by f path i (items_view (drop i vs)))

module _ (f : ℕ → List ℕ → Data → Reading (List RawRow)) (path : List ℕ) (vs : List Value) where
  pub steps_start : (found : Vec (Vec Row Global) Global) → found.items ≡ []
      → StepsSoFar f path vs 0 found
  steps_start found none = record {
    count = ap length none;
    raws = [];
    alike = subst (λ xs. AllZip AreSameRows xs []) (sym none) tt;
    rest = after-nil (each_by f path 0 (items_view vs));
  }

  module _ (i : ℕ) (at : List ℕ) (v : Value) (found : Vec (Vec Row Global) Global)
      (lt : i < length vs) (is : v ≡ get_or vs i v) (at_is : at ≡ part path i)
      (before : StepsSoFar f path vs i found) where
    opened : each_by f path i (items_view (drop i vs)) ≡ on (λ b. after (b ∷ [])
        (each_by f path (suc i) (items_view (drop (suc i) vs)))) (f i at (view v))
    opened =
        ap (λ xs. each_by f path i (items_view xs)) (drop_one vs i lt is)
        ∙ ap (λ p. on (λ b. after (b ∷ []) (each_by f path (suc i) (items_view (drop (suc i) vs))))
        (f i p (view v))) (sym at_is)

    pub steps_fault : (e : CertError) → IfFault e (λ g. f i at (view v) ≡ Err g)
        → IfFault e (λ g. each_by f path 0 (items_view vs) ≡ Err g)
    steps_fault = one_fault _ _ _ before.rest opened

    pub steps_more : (rows : Vec Row Global) (next : Vec (Vec Row Global) Global)
        → IsRead AreSameRows rows (f i at (view v)) → next.items ≡ found.items ++ rows ∷ []
        → StepsSoFar f path vs (i + 1) next
    steps_more rows next right more = record {
      count = ap length more ∙ length_push found.items rows ∙ ap (λ k. k + 1) before.count;
      raws = before.raws ++ right.raw ∷ [];
      alike = subst (λ xs. AllZip AreSameRows xs (before.raws ++ right.raw ∷ [])) (sym more)
          (zip_push AreSameRows found.items before.raws rows right.raw before.alike right.alike);
      rest = rw add-one (one_more _ _ _ before.rest opened right.is);
    }

  pub steps_are : {i : ℕ} {found : Vec (Vec Row Global) Global} → StepsSoFar f path vs i found
      → length vs ≤ i → IsRead AreSameSteps found (each_by f path 0 (items_view vs))
  steps_are {i = i} all past = record {
    raw = all.raws;
    is = all.rest
        ∙ ap (λ xs. after all.raws (each_by f path i (items_view xs))) (drop_all i vs past)
        ∙ ap Ok (append-nil all.raws);
    alike = all.alike;
  }

-- what each of some has, by its place
pub fits_more : (P : ℕ → Vec Row Global → Type 0) (xs ys : List (Vec Row Global))
    (x : Vec Row Global) → ys ≡ xs ++ x ∷ []
    → ((j : ℕ) (r : Vec Row Global) → j < length xs → r ≡ get_or xs j r → P j r)
    → P (length xs) x → (j : ℕ) (r : Vec Row Global) → j < length ys → r ≡ get_or ys j r → P j r
fits_more P xs ys x more old new j r l is =
    go (below_or_last j (length xs) (omega (arith, l, ap length more, length_push xs x)))
  where
    go : (j < length xs) ⊎ (j ≡ length xs) → P j r
    go (inl b) = old j r b (is ∙ ap (λ zs. get_or zs j r) more
        ∙ get_or_append_left xs (x ∷ []) r j b)
    go (inr e) =
        let same : r ≡ x = is ∙ ap (λ zs. get_or zs j r) more
        ∙ get_or_push xs x r j (sym e) in rw e (rw same new)
