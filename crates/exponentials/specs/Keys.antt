-- Exponents of n, s, u, v and of variables, in one list: first n, then s, then the u and the v of a base, then the variables.
--   top e, rest e          the first of them, and the others
--   Key                    the exponents of s, of the u and of the v
--   key_of r e             those in e, where the base has r numbers
--   IsNormalKey bs x       s at most once, and exponents for the base, no number of it to a power above and below 0
--   excess d e               what d has more than e, place by place, as far as both go
--   parity n               0 or 1: the exponent of s with s s left out
--   normal_key r e         key_of r e, where s s and u v are left out
use Rattle.std.specs.Prelude.{ℕ, zero, suc, ◌-◌, ◌<◌, List, [], ◌∷◌, take, drop}
use Rattle.exponentials.specs.Base.{Disjoint, SameLength}

abbrev pub top : List ℕ → ℕ
top [] = 0
top (a ∷ e) = a

abbrev pub rest : List ℕ → List ℕ
rest [] = []
rest (a ∷ e) = e

abbrev pub Key : Type 0
Key = ℕ × List ℕ × List ℕ

abbrev pub key_of : ℕ → List ℕ → Key
key_of r e = (top (rest e), take r (rest (rest e)), take r (drop r (rest (rest e))))

abbrev pub IsNormalKey : List ℕ → Key → Type 0
IsNormalKey bs x = (x.0 < 2) × SameLength bs x.1 × SameLength bs x.2 × Disjoint x.1 x.2

unfoldable pub excess : List ℕ → List ℕ → List ℕ
excess [] e = []
excess (m ∷ d) [] = []
excess (m ∷ d) (n ∷ e) = (m - n) ∷ excess d e

abbrev pub parity : ℕ → ℕ
parity zero = 0
parity (suc zero) = 1
parity (suc (suc n)) = parity n

abbrev pub normal_key : ℕ → List ℕ → Key
normal_key r e =
    let x : Key = key_of r e in
    (parity x.0, excess x.1 x.2, excess x.2 x.1)
