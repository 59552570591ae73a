-- The rounds, read one after another, each by how many polynomials the list before it has.
--   RoundsSoFar     the rounds are read as those found, and behind them those from place i on
--   rounds_more, rounds_fault     the steps of such a loop
use Rattle.std.proofs.Common.{◌≡◌, ℕ, suc, ◌+◌, ◌<◌, List, [], ◌∷◌, ◌++◌, Ok, Err, map, length, get_or, drop, sym, ap, ◌∙◌, add-one}
use Rattle.serde_json.specs.View.{view, items_view}
use Rattle.serde_json.specs.declared.value.Value.{Value}
use Rattle.cert_form.specs.declared.error.CertError.{CertError}
use Rattle.cert_form.specs.Form.{Reading, on, after, part}
use Rattle.cert_form.specs.Faults.{IfFault}
use Rattle.cert_form.proofs.Each.{one_fault, drop_one}
use Rattle.corollaries.specs.Full.{WrittenForm, BranchStages}
use Rattle.full_cert.proofs.Each.{more_seen}
use Rattle.full_cert.specs.Form.{last_given, round_at, rounds_at}

module _ {A : Type 0} (see : A → List BranchStages) (m before : ℕ) (fs : List WrittenForm)
    (path : List ℕ) (vs : List Value) where
  abbrev pub RoundsSoFar : ℕ → ℕ → List A → Type 0
  RoundsSoFar count i found =
      rounds_at m before fs path 0 (items_view vs)
      ≡ after (map see found) (rounds_at m count fs path i (items_view (drop i vs)))

  module _ (count i : ℕ) (found : List A) (prior : RoundsSoFar count i found) {here : List ℕ}
      {v : Value} (within : i < length vs) (is : v ≡ get_or vs i v) (at : here ≡ part path i) where
    abbrev behind : List BranchStages → Reading (List (List BranchStages))
    behind row = rounds_at m (last_given count row) fs path (suc i) (items_view (drop (suc i) vs))

    first : rounds_at m count fs path i (items_view (drop i vs))
        ≡ on (λ row. after (row ∷ []) (behind row)) (round_at m count fs here (view v))
    first = ap (λ xs. rounds_at m count fs path i (items_view xs)) (drop_one vs i within is)
        ∙ ap (λ q. on (λ row. after (row ∷ []) (behind row)) (round_at m count fs q (view v)))
        (sym at)

    pub rounds_more : {a : A} {next : List A} {n : ℕ} → round_at m count fs here (view v)
        ≡ Ok (see a) → next ≡ found ++ a ∷ [] → n ≡ last_given count (see a)
        → RoundsSoFar n (i + 1) next
    rounds_more same more given =
        rw (given, add-one) (more_seen see found behind _ prior first same more)

    pub rounds_fault : (e : CertError)
        → IfFault e (λ g. round_at m count fs here (view v) ≡ Err g)
        → IfFault e (λ g. rounds_at m before fs path 0 (items_view vs) ≡ Err g)
    rounds_fault = one_fault _ behind _ prior first
