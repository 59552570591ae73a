-- What is said of results.
--   ok_weaker     of one, from what else is said of it
--   wide_of                a refusal as wide is one of a part
use Rattle.std.proofs.Common.{◌≡◌, Result, Ok, Err, IsErrOf, sym, ◌∙◌}
use Rattle.std.specs.Result.{IfOk, IsErrAnd}
use Rattle.ring_laws.specs.declared.ArithmeticError.{ArithmeticError}
use Rattle.ring_laws.specs.declared.ArithmeticError.TheVariants.{Wide}

pub ok_weaker : {T E : Type 0} (P Q : T → Type 0) → ((x : T) → P x → Q x) → (r : Result T E)
    → IfOk r P → IfOk r Q
ok_weaker P Q f (Ok x) h = f x h
ok_weaker P Q f (Err e) h = tt

pub wide_of : {X : Type 0} (r : Result X ArithmeticError) (e : ArithmeticError)
    → IsErrAnd r (λ f. f ≡ e) → IsErrOf r Wide → e ≡ Wide
wide_of (Ok x) e h w = absurd h
wide_of (Err y) e h w = let q : y ≡ Wide = cc in sym h ∙ q
