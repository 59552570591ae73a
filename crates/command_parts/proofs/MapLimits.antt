-- The first operation that passes a limit is one.
--   limit_same        its offset
--   not_free          where there is one, not all are free of limits
use Rattle.std.proofs.Common.{◌≡◌, ℕ, List, [], ◌∷◌, ◌++◌, sym, ap, subst, ◌∙◌}
use Rattle.std.specs.Prelude.{All}
use Rattle.std.proofs.lemmas.List.Elements.{All-head, All-tail}
use Rattle.loop_model.specs.Operations.{Operation, PassesLimit, IsFree, IsLimit}

first_same : {A : Type 0} (P : A → Type 0) (xs xs' : List A) (o o' : A) (ys ys' : List A)
    → xs ++ o ∷ ys ≡ xs' ++ o' ∷ ys' → All (λ x. ¬ (P x)) xs → All (λ x. ¬ (P x)) xs' → P o → P o'
    → o ≡ o'
first_same P [] [] o o' ys ys' e f g h k = cc
first_same P [] (x ∷ xs') o o' ys ys' e f g h k = let same : o ≡ x = cc in
    absurd (All-head (λ y. ¬ (P y)) x xs' g (subst P same h))
first_same P (x ∷ xs) [] o o' ys ys' e f g h k = let same : o' ≡ x = cc in
    absurd (All-head (λ y. ¬ (P y)) x xs f (subst P same k))
first_same P (x ∷ xs) (x' ∷ xs') o o' ys ys' e f g h k = let rest : xs ++ o ∷ ys ≡ xs' ++ o' ∷ ys' =
    cc in first_same P xs xs' o o' ys ys' rest (All-tail (λ y. ¬ (P y)) x xs f)
    (All-tail (λ y. ¬ (P y)) x' xs' g) h k

free_within : {A : Type 0} (P : A → Type 0) (xs : List A) (o : A) (ys : List A)
    → All (λ x. ¬ (P x)) (xs ++ o ∷ ys) → P o → ⊥
free_within P [] o ys f h = All-head (λ y. ¬ (P y)) o ys f h
free_within P (x ∷ xs) o ys f h =
    free_within P xs o ys (All-tail (λ y. ¬ (P y)) x (xs ++ o ∷ ys) f) h

pub limit_same : (m : ℕ) (os : List Operation) (at at' : ℕ) → IsLimit m os at → IsLimit m os at'
    → at ≡ at'
limit_same m os at at' f g =
    let same = first_same
    (PassesLimit m) f.before g.before f.operation g.operation f.behind g.behind (sym f.order
    ∙ g.order) f.free g.free f.holds g.holds in
    sym f.offset ∙ (ap (λ (o : Operation). o.at) same ∙ g.offset)

pub not_free : (m : ℕ) (os : List Operation) (at : ℕ) → IsLimit m os at → IsFree m os → ⊥
not_free m os at f free =
    free_within (PassesLimit m) f.before f.operation f.behind
    (subst (λ x. IsFree m x) f.order free) f.holds
