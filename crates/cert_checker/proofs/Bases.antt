-- Numbers that are a base, one after another.
--   AreApart a bs      a is below each of the bs, and coprime to it;  apart_cons: of one more
--   IsFirst a bs       and it is above 1;  base_cons: of a base with one more number
--   sizes_length            how many sizes there are
--   size_at, rest_sizes     a number's size, at its place, and those behind it
use Rattle.std.proofs.Common.{◌≡◌, ◌↔◌, ℕ, suc, ◌+◌, ◌-◌, ◌<◌, List, [], ◌∷◌, get_or, take, drop, length, unsigned_abs, sym, ap, ◌∙◌, add-one}
use Rattle.std.proofs.lemmas.List.{get_or-map, length-map, drop-map, take_rest}
use Rattle.algebra.specs.Each.{Each}
use Rattle.algebra.specs.Gcd.{gcd}
use Rattle.frac128.specs.declared.Whole.{Whole}
use Rattle.coprime_base.specs.Sizes.{sizes}
use Rattle.expo.specs.Bases.{IsCoprimeBase}

abbrev pub IsApart : ℕ → ℕ → List ℕ → Type 0
IsApart a b bs = (gcd a b ≡ 1) × (a < b)

abbrev pub AreApart : ℕ → List ℕ → Type 0
AreApart a bs = Each (λ b. gcd a b ≡ 1) bs × Each (λ b. a < b) bs

pub apart_cons : (a b : ℕ) (bs : List ℕ) → AreApart a (b ∷ bs) ↔ (IsApart a b bs × AreApart a bs)
unfolding Each
apart_cons a b bs = (
  λ h. ((h.0.0, h.1.0), (h.0.1, h.1.1)),
  λ h. ((h.0.0, h.1.0), (h.0.1, h.1.1)),
)

pub none_apart : (a : ℕ) → AreApart a []
unfolding Each
none_apart a = (tt, tt)

abbrev pub IsFirst : ℕ → List ℕ → Type 0
IsFirst a bs = (1 < a) × AreApart a bs

pub base_cons : (a : ℕ) (bs : List ℕ) → IsCoprimeBase (a ∷ bs) ↔ (IsFirst a bs × IsCoprimeBase bs)
base_cons a bs = (
  λ h. ((h.0.0, (h.0.1, h.1.0)), (h.0.2, h.1.1)),
  λ h. ((h.0.0, h.0.1.0, h.1.0), (h.0.1.1, h.1.1)),
)

pub no_base : IsCoprimeBase []
no_base = (tt, tt)

pub sizes_length : (ws : List Whole) → length (sizes ws) ≡ length ws
sizes_length ws = length-map ws (λ (w : Whole). unsigned_abs w.value)

pub size_at : (ws : List Whole) (i : ℕ) {w : Whole} → i < length ws → w ≡ get_or ws i w
    → unsigned_abs w.value ≡ get_or (sizes ws) i 0
size_at ws i {w = w} l is = ap (λ (x : Whole). unsigned_abs x.value) is
    ∙ sym (get_or-map (λ (x : Whole). unsigned_abs x.value) ws i w 0 l)

pub rest_sizes : (ws : List Whole) (i : ℕ)
    → sizes (take (length ws - (i + 1)) (drop (i + 1) ws)) ≡ drop (suc i) (sizes ws)
rest_sizes ws i = ap sizes (take_rest ws (i + 1))
    ∙ sym (drop-map (λ (x : Whole). unsigned_abs x.value) (i + 1) ws)
    ∙ ap (λ k. drop k (sizes ws)) (add-one i)
