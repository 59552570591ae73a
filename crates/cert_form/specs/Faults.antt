-- The faults that the errors of this crate are.
--   IfFault e P            P of the fault that the error is; want of memory is none
--   IsRead like a r        the reading r is a part that `like` ties to a
--   ReadsLike like r result     the result is such a part, or the fault of the reading r
--   Reads see r result     so, where the part is what is seen of the result
use Rattle.std.specs.Prelude.{◌≡◌, Result, Ok, Err, string_bytes}
use Rattle.std.specs.Result.{MatchResult}
use Rattle.cert_form.specs.declared.error.CertError.{CertError}
use Rattle.cert_form.specs.declared.error.CertError.TheVariants as error
use Rattle.cert_form.specs.Form.{Reading, Fault, not_json, shape, polynomial}

abbrev pub IfFault : CertError → (Fault → Type 0) → Type 0
IfFault error.NotJson P = P not_json
IfFault (error.Shape path) P = P (shape (string_bytes path))
IfFault (error.Poly path) P = P (polynomial (string_bytes path))
IfFault error.Memory P = Unit {0}

pub record IsRead {A B : Type 0} (like : A → B → Type 0) (a : A) (reading : Reading B) : Type
    0 where
  pub raw : B
  pub is : reading ≡ Ok raw
  pub alike : like a raw

abbrev pub ReadsLike : {A B : Type 0} → (A → B → Type 0) → Reading B → Result A CertError → Type 0
ReadsLike like reading result =
    MatchResult result (λ a. IsRead like a reading) (λ e. IfFault e (λ f. reading ≡ Err f))

abbrev pub Reads : {A B : Type 0} → (A → B) → Reading B → Result A CertError → Type 0
Reads see reading result =
    MatchResult result (λ a. reading ≡ Ok (see a)) (λ e. IfFault e (λ f. reading ≡ Err f))
