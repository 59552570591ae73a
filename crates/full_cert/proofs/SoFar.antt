-- The values of a list, one after another.
--   EverySoFar f vs i          the test f passes the values vs where it passes those from place i on
--   ExponentsSoFar vs i found  the exponents of vs are those found and those from place i on
--   TermsSoFar m vs i found    the terms of vs are those found and those from place i on
use Rattle.std.proofs.Common.{◌≡◌, ℕ, Bool, List, ◌++◌, drop}
use Rattle.std.specs.Prelude.{option_map}
use Rattle.serde_json.specs.Data.{Data}
use Rattle.serde_json.specs.View.{items_view}
use Rattle.serde_json.specs.declared.value.Value.{Value}
use Rattle.algebra.specs.Fraction.{Fraction}
use Rattle.polynomials.specs.Terms.{Terms}
use Rattle.full_cert.specs.Raw.{every, exponents_of, terms_after, terms_of}

abbrev pub EverySoFar : (Data → Bool) → List Value → ℕ → Type 0
EverySoFar f vs i = every f (items_view vs) ≡ every f (items_view (drop i vs))

abbrev pub ExponentsSoFar : List Value → ℕ → List ℕ → Type 0
ExponentsSoFar vs i found =
    exponents_of (items_view vs)
    ≡ option_map (λ e. found ++ e) (exponents_of (items_view (drop i vs)))

abbrev pub TermsSoFar : ℕ → List Value → ℕ → Terms Fraction → Type 0
TermsSoFar m vs i found = terms_of m (items_view vs) ≡ terms_after m found (items_view (drop i vs))
