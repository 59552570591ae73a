-- The branches of a round, read one after another, each by its form and by what was given before it.
--   BranchesSoFar     the branches are read as those found, and behind them those from place i on
--   branches_start, branches_more, branches_fault     the steps of such a loop
--   branches_none, branches_in     none that were found, and those found and one more, have the variables that they should have
use Rattle.std.proofs.Common.{◌≡◌, ℕ, suc, ◌+◌, ◌<◌, List, [], ◌∷◌, ◌++◌, Ok, Err, map, length, get_or, drop, sym, ap, ap₂, subst, ◌∙◌, add-one}
use Rattle.std.specs.Prelude.{Option, Some, None, take}
use Rattle.std.specs.List.{AllZip}
use Rattle.serde_json.specs.View.{view, items_view}
use Rattle.serde_json.specs.declared.value.Value.{Value}
use Rattle.cert_form.specs.declared.error.CertError.{CertError}
use Rattle.cert_form.specs.Form.{Reading, on, after, part}
use Rattle.cert_form.specs.Faults.{IfFault}
use Rattle.cert_form.proofs.Each.{after-nil, one_fault, drop_one}
use Rattle.cert_form.proofs.Zip.{zip_push}
use Rattle.corollaries.specs.Full.{WrittenForm, BranchStages}
use Rattle.algebra.proofs.Lists.{take_one}
use Rattle.task_lists.specs.declared.parts.FullForm.{FullForm}
use Rattle.task_lists.specs.Images.{IsBranchIn}
use Rattle.task_lists.specs.declared.parts.FullBranch.{FullBranch}
use Rattle.full_cert.proofs.Each.{more_seen}
use Rattle.full_cert.specs.Form.{branch_at, branches_at, given_by}

module _ {A P : Type 0} (see : A → BranchStages) (form : P → WrittenForm) (m before : ℕ)
    (fs : List P) (path : List ℕ) (vs : List Value) where
  abbrev pub left : Option ℕ → ℕ → Reading (List BranchStages)
  left so_far i = branches_at m before so_far (map form (drop i fs)) path i (items_view (drop i vs))

  abbrev pub BranchesSoFar : Option ℕ → ℕ → List A → Type 0
  BranchesSoFar so_far i found =
      branches_at m before None (map form fs) path 0 (items_view vs)
      ≡ after (map see found) (left so_far i)

  pub branches_start : {found : List A} → found ≡ [] → BranchesSoFar None 0 found
  branches_start none =
      after-nil (branches_at m before None (map form fs) path 0 (items_view vs))
      ∙ ap (λ xs. after (map see xs) (branches_at m before None (map form fs) path 0
      (items_view vs))) (sym none)

  module _ (so_far : Option ℕ) (i : ℕ) (found : List A) (prior : BranchesSoFar so_far i found)
      {here : List ℕ} {v : Value} {p : P} (within : i < length vs) (inside : i < length fs)
      (is : v ≡ get_or vs i v) (its : p ≡ get_or fs i p) (at : here ≡ part path i) where
    abbrev behind : BranchStages → Reading (List BranchStages)
    behind s = branches_at m before (Some (given_by s)) (map form (drop (suc i) fs)) path (suc i)
        (items_view (drop (suc i) vs))

    first : left so_far i ≡ on (λ s. after (s ∷ []) (behind s))
        (branch_at m before so_far (form p) here (view v))
    first = ap₂ (λ ps xs. branches_at m before so_far (map form ps) path i (items_view xs))
        (drop_one fs i inside its) (drop_one vs i within is)
        ∙ ap (λ q. on (λ s. after (s ∷ []) (behind s))
        (branch_at m before so_far (form p) q (view v))) (sym at)

    pub branches_more : {a : A} {next : List A} {count : ℕ}
        → branch_at m before so_far (form p) here (view v) ≡ Ok (see a) → next ≡ found ++ a ∷ []
        → count ≡ given_by (see a) → BranchesSoFar (Some count) (i + 1) next
    branches_more same more given =
        rw (given, add-one) (more_seen see found behind _ prior first same more)

    pub branches_fault : (e : CertError)
        → IfFault e (λ g. branch_at m before so_far (form p) here (view v) ≡ Err g)
        → IfFault e (λ g. branches_at m before None (map form fs) path 0 (items_view vs) ≡ Err g)
    branches_fault = one_fault _ behind _ prior first

pub branches_none : (m : ℕ) (fs : List FullForm) {found : List FullBranch} → found ≡ []
    → AllZip (IsBranchIn m) (take 0 fs) found
branches_none m fs none = subst (AllZip (IsBranchIn m) (take 0 fs)) (sym none) tt

pub branches_in : (m : ℕ) (fs : List FullForm) (i : ℕ) (found : List FullBranch) {f : FullForm}
    {b : FullBranch} {next : List FullBranch} → i < length fs → f ≡ get_or fs i f
    → AllZip (IsBranchIn m) (take i fs) found → IsBranchIn m f b → next ≡ found ++ b ∷ []
    → AllZip (IsBranchIn m) (take (i + 1) fs) next
branches_in m fs i found {f = f} {b = b} within is before one more =
    subst (AllZip (IsBranchIn m) (take (i + 1) fs)) (sym more)
    (subst (λ xs. AllZip (IsBranchIn m) xs (found ++ b ∷ [])) (sym (take_one fs i f within is))
    (zip_push (IsBranchIn m) (take i fs) found f b before one))
