-- The parts of a list, read one after another.
--   IfFault-map                          a fact for a fault, from another
--   passed                               the fault of an error is that of the error that is passed on
--   after-after, after-nil               lists before what is read: two are one behind the other, and none changes nothing
--   one_more, one_fault                  what is read behind others: one more part, or a fault
--   drop_one, each_first                 what is left at a place: the value there, and its reading, before what is left behind it
--   ReadSoFar like f path vs i found     of the values vs, those before place i were read as found, and as many
--   so_far_start, so_far_more, so_far_fault     the steps of such a loop
--   entry_is                             the entry at a place is the value there
use Rattle.std.proofs.Common.{◌≡◌, ℕ, zero, suc, ◌+◌, ◌<◌, List, [], ◌∷◌, ◌++◌, Result, Ok, Err, length, get_or, drop, refl, sym, ap, subst, ◌∙◌, append_assoc, add-one, arith}
use Rattle.std.proofs.Math.Seq.{drop-cons}
use Rattle.std.proofs.lemmas.Result.{err_from_is_err_and}
use Rattle.std.specs.List.{AllZip}
use Rattle.std.specs.Result.{MatchResult, IsErrAnd}
use Rattle.std.specs.Prelude.{string_bytes, Vec, vec_len}
use Rattle.std.specs.declared.alloc.Global.{Global}
use Rattle.serde_json.specs.Data.{Data}
use Rattle.serde_json.specs.View.{view, items_view}
use Rattle.serde_json.specs.declared.value.Value.{Value}
use Rattle.cert_form.specs.declared.error.CertError.{CertError}
use Rattle.cert_form.specs.declared.error.CertError.TheVariants as error
use Rattle.cert_form.specs.Form.{Fault, not_json, shape, polynomial, Reading, on, after, part, each, count, entry}
use Rattle.cert_form.specs.Faults.{IfFault, IsRead}
use Rattle.cert_form.proofs.Zip.{zip_push}

pub IfFault-map : (e : CertError) {P Q : Fault → Type 0} → ((f : Fault) → P f → Q f) → IfFault e P
    → IfFault e Q
IfFault-map error.NotJson h p = h not_json p
IfFault-map (error.Shape path) h p = h (shape (string_bytes path)) p
IfFault-map (error.Poly path) h p = h (polynomial (string_bytes path)) p
IfFault-map error.Memory h p = tt

-- what `?` passes on
pub passed : {X : Type 0} (r : Result X CertError) (P : X → Type 0) (Q : Fault → Type 0)
    (e : CertError) → IsErrAnd r (λ x. x ≡ e) → IfFault e Q → MatchResult r P (λ x. IfFault x Q)
passed r P Q e is h = let p = err_from_is_err_and r is in rw (p.1, p.2) h

pub after-after : {A : Type 0} (xs ys : List A) (r : Reading (List A))
    → after xs (after ys r) ≡ after (xs ++ ys) r
after-after xs ys (Ok rest) = ap (λ zs. Ok zs) (sym (append_assoc xs ys rest))
after-after xs ys (Err e) = refl

pub after-nil : {A : Type 0} (r : Reading (List A)) → r ≡ after [] r
after-nil (Ok rest) = refl
after-nil (Err e) = refl

-- a reading goes on behind what was read of it, with one more part or with a fault
module _ {B : Type 0} {whole left : Reading (List B)} (read : List B)
    (behind : B → Reading (List B)) (r : Reading B) (before : whole ≡ after read left)
    (first : left ≡ on (λ b. after (b ∷ []) (behind b)) r) where
  goes_on : (q : Reading B) → r ≡ q → whole ≡ after read (on (λ b. after (b ∷ []) (behind b)) q)
  goes_on q is = before ∙ ap (after read) (first ∙ ap (on (λ b. after (b ∷ []) (behind b))) is)

  pub one_more : {b : B} → r ≡ Ok b → whole ≡ after (read ++ b ∷ []) (behind b)
  one_more {b = b} is = goes_on (Ok b) is ∙ after-after read (b ∷ []) (behind b)

  pub one_fault : (e : CertError) → IfFault e (λ f. r ≡ Err f) → IfFault e (λ f. whole ≡ Err f)
  one_fault e = IfFault-map e (λ f. goes_on (Err f))

pub drop_one : {X : Type 0} (xs : List X) (i : ℕ) {x : X} → i < length xs → x ≡ get_or xs i x
    → drop i xs ≡ x ∷ drop (suc i) xs
drop_one xs i {x = x} within is = drop-cons xs i x within ∙ ap (λ y. y ∷ drop (suc i) xs) (sym is)

pub each_first : {B : Type 0} (f : List ℕ → Data → Reading B) (path : List ℕ) (vs : List Value)
    (i : ℕ) {here : List ℕ} {v : Value} → i < length vs → v ≡ get_or vs i v → here ≡ part path i
    → each f path i (items_view (drop i vs)) ≡ on (λ b.
    after (b ∷ []) (each f path (suc i) (items_view (drop (suc i) vs)))) (f here (view v))
each_first f path vs i {v = v} within is at =
    ap (λ xs. each f path i (items_view xs)) (drop_one vs i within is)
    ∙ ap (λ p. on (λ b. after (b ∷ []) (each f path (suc i) (items_view (drop (suc i) vs))))
    (f p (view v))) (sym at)

pub record ReadSoFar {A B : Type 0} (like : A → B → Type 0) (f : List ℕ → Data → Reading B)
    (path : List ℕ) (vs : List Value) (i : ℕ) (found : Vec A Global) : Type 0 where
  pub count : vec_len found ≡ i
  pub raws : List B
  pub alike : AllZip like found.items raws
  pub rest : each f path 0 (items_view vs) ≡ after raws (each f path i (items_view (drop i vs)))

module _ {A B : Type 0} {like : A → B → Type 0} {f : List ℕ → Data → Reading B} {path : List ℕ}
    {vs : List Value} where
  pub so_far_start : {found : Vec A Global} → found.items ≡ [] → vec_len found ≡ 0
      → ReadSoFar like f path vs 0 found
  so_far_start none count = record {
    count = count;
    raws = [];
    alike = subst (λ xs. AllZip like xs []) (sym none) tt;
    rest = after-nil (each f path 0 (items_view vs));
  }

  module _ {i : ℕ} {found : Vec A Global} (before : ReadSoFar like f path vs i found)
      {here : List ℕ} {v : Value} (lt : i < length vs) (is : v ≡ get_or vs i v)
      (at : here ≡ part path i) where
    pub so_far_more : {a : A} {next : Vec A Global} → IsRead like a (f here (view v))
        → next.items ≡ found.items ++ a ∷ [] → vec_len next ≡ vec_len found + 1
        → ReadSoFar like f path vs (i + 1) next
    so_far_more {a = a} right more longer = record {
      count = longer ∙ ap (λ n. n + 1) before.count;
      raws = before.raws ++ right.raw ∷ [];
      alike = subst (λ xs. AllZip like xs (before.raws ++ right.raw ∷ [])) (sym more)
          (zip_push like found.items before.raws a right.raw before.alike right.alike);
      rest = rw add-one (one_more _ _ _ before.rest (each_first f path vs i lt is at) right.is);
    }

    pub so_far_fault : (e : CertError) → IfFault e (λ g. f here (view v) ≡ Err g)
        → IfFault e (λ g. each f path 0 (items_view vs) ≡ Err g)
    so_far_fault = one_fault _ _ _ before.rest (each_first f path vs i lt is at)

pub count_is : (vs : List Value) → count (items_view vs) ≡ length vs
count_is [] = refl
count_is (v ∷ vs) = ap suc (count_is vs)

pub entry_is : (vs : List Value) (k : ℕ) (v : Value) → k < length vs → v ≡ get_or vs k v
    → entry k (items_view vs) ≡ view v
entry_is [] k v within is = absurd (omega (arith, within))
entry_is (w ∷ vs) zero v within is = ap view (sym is)
entry_is (w ∷ vs) (suc k) v within is = entry_is vs k v (omega (arith, within)) is
