-- The parts of a list, read one after another.
--   more_seen       what is read behind what is seen of others, with one more part
--   EachSoFar see f path vs i found     the values vs are read by f as what is seen of those found, and behind them those from place i on
--   each_more, each_fault     the steps of such a loop
use Rattle.std.proofs.Common.{◌≡◌, ℕ, ◌+◌, ◌<◌, List, [], ◌∷◌, ◌++◌, Ok, Err, map, length, get_or, drop, sym, ap, ◌∙◌, add-one}
use Rattle.std.proofs.lemmas.List.{map-append}
use Rattle.serde_json.specs.Data.{Data}
use Rattle.serde_json.specs.View.{view, items_view}
use Rattle.serde_json.specs.declared.value.Value.{Value}
use Rattle.cert_form.specs.declared.error.CertError.{CertError}
use Rattle.cert_form.specs.Form.{Reading, on, after, part, each}
use Rattle.cert_form.specs.Faults.{IfFault}
use Rattle.cert_form.proofs.Each.{one_more, one_fault, each_first}

module _ {A B : Type 0} (see : A → B) {whole left : Reading (List B)} (found : List A)
    (behind : B → Reading (List B)) (r : Reading B) (before : whole ≡ after (map see found) left)
    (first : left ≡ on (λ b. after (b ∷ []) (behind b)) r) where
  pub more_seen : {a : A} {next : List A} → r ≡ Ok (see a) → next ≡ found ++ a ∷ []
      → whole ≡ after (map see next) (behind (see a))
  more_seen {a = a} is more = one_more (map see found) behind r before first is
      ∙ ap (λ xs. after xs (behind (see a)))
      (sym (ap (map see) more ∙ map-append see found (a ∷ [])))

module _ {A B : Type 0} (see : A → B) (f : List ℕ → Data → Reading B) (path : List ℕ)
    (vs : List Value) where
  abbrev pub EachSoFar : ℕ → List A → Type 0
  EachSoFar i found =
      each f path 0 (items_view vs) ≡ after (map see found) (each f path i (items_view (drop i vs)))

  module _ (i : ℕ) (found : List A) (before : EachSoFar i found) {here : List ℕ} {v : Value}
      (within : i < length vs) (is : v ≡ get_or vs i v) (at : here ≡ part path i) where
    pub each_more : {a : A} {next : List A} → f here (view v) ≡ Ok (see a)
        → next ≡ found ++ a ∷ [] → EachSoFar (i + 1) next
    each_more same more = rw add-one (more_seen see found _ _ before
        (each_first f path vs i within is at) same more)

    pub each_fault : (e : CertError) → IfFault e (λ g. f here (view v) ≡ Err g)
        → IfFault e (λ g. each f path 0 (items_view vs) ≡ Err g)
    each_fault = one_fault _ _ _ before (each_first f path vs i within is at)
