-- The certificate that was read: its polynomials are those of the file.
--   filled_same        rows of the same polynomials at the same positions
--   lists_same, steps_same     the lists, and the cofactors, place by place
--   read_same          the certificate
use Rattle.std.proofs.Common.{◌≡◌, ℕ, zero, suc, ◌-◌, List, [], ◌∷◌, ◌++◌, get_or, map, replicate, refl, sym, ap, subst, Vec, Global}
use Rattle.algebra.specs.Fraction.{Fraction, ℚ}
use Rattle.polynomials.specs.Terms.{Terms, AllSame}
use Rattle.polynomials.proofs.Same.{Same-refl}
use Rattle.poly.proofs.Standing.{stands_same}
use Rattle.cert_form.specs.Cert.{ArePolysOf, polys_in}
use Rattle.cert_form.proofs.Zip.{zip_at}
use Rattle.flows.specs.Certificate.{SameCertificate}
use Rattle.program_checker.specs.Rows.{filled, row_of}
use Rattle.program_checker.specs.Form.{RawRow, RawCertificate}
use Rattle.program_checker.specs.ReadAs.{IsSameRow, AreSameRows, AreSameSteps, AreListsBehind, cofactors_in, full_row, certificate_in}
use Rattle.program_checker.specs.View.{pairs_of, rows_of, certificate_of}
use Rattle.program_checker.specs.declared.cert.Row.{Row}
use Rattle.program_checker.specs.declared.cert.ProgramCert.{ProgramCert}

zeros_same : (d : ℕ) (ps qs : List (Terms Fraction)) → AllSame ℚ ps qs
    → AllSame ℚ (replicate d [] ++ ps) (replicate d [] ++ qs)
unfolding AllSame
zeros_same zero ps qs h = h
zeros_same (suc d) ps qs h = (Same-refl ℚ [], zeros_same d ps qs h)

pub filled_same : (k : ℕ) (js : List ℕ) (ps qs : List (Terms Fraction)) → AllSame ℚ ps qs
    → AllSame ℚ (filled k js ps) (filled k js qs)
unfolding AllSame filled
filled_same k [] ps qs h = tt
filled_same k (j ∷ js) [] [] h = tt
filled_same k (j ∷ js) [] (q ∷ qs) h = absurd h
filled_same k (j ∷ js) (p ∷ ps) [] h = absurd h
filled_same k (j ∷ js) (p ∷ ps) (q ∷ qs) h =
    zeros_same (j - k) (p ∷ filled (suc j) js ps) (q ∷ filled (suc j) js qs)
    (h.0, filled_same (suc j) js ps qs h.1)

row_same : (row : Row) (pairs : RawRow) → IsSameRow row pairs
    → AllSame ℚ (row_of (pairs_of row)) (full_row pairs)
row_same row pairs h =
    subst (λ ks. AllSame ℚ (row_of (pairs_of row)) (filled 0 ks (cofactors_in pairs)))
    h.positions
    (filled_same 0 row.positions.items _ _ h.same)

nothing_same : AllSame ℚ [] []
unfolding AllSame
nothing_same = tt

get_map : {X Y : Type 0} (f : X → Y) (xs : List X) (k : ℕ) (d : X)
    → get_or (map f xs) k (f d) ≡ f (get_or xs k d)
get_map f [] k d = refl
get_map f (x ∷ xs) zero d = refl
get_map f (x ∷ xs) (suc k) d = get_map f xs k d

map_twice : {X Y Z : Type 0} (f : X → Y) (g : Y → Z) (xs : List X)
    → map g (map f xs) ≡ map (λ x. g (f x)) xs
map_twice f g [] = refl
map_twice f g (x ∷ xs) = ap (λ ys. g (f x) ∷ ys) (map_twice f g xs)

rows_same : (rows : Vec Row Global) (raws : List RawRow) → AreSameRows rows raws → (i : ℕ)
    → AllSame ℚ (get_or (map row_of (rows_of rows)) i []) (get_or (map full_row raws) i [])
unfolding filled
rows_same rows raws h i =
    subst (λ qs. AllSame ℚ (get_or (map row_of (rows_of rows)) i []) qs)
    (sym (get_map full_row raws i []))
    (subst (λ rs. AllSame ℚ (get_or rs i []) (full_row (get_or raws i [])))
    (sym (map_twice pairs_of row_of rows.items))
    (zip_at IsSameRow (λ ps pairs. AllSame ℚ ps (full_row pairs)) (λ row. row_of (pairs_of row)) []
    []
    row_same nothing_same rows.items raws h i))

abbrev SameRows : List (List (Terms Fraction)) → List RawRow → Type 0
SameRows rs raws = (i : ℕ) → AllSame ℚ (get_or rs i []) (get_or (map full_row raws) i [])

module _ (c : ProgramCert) (m : ℕ) (raw : RawCertificate) (lists : AreListsBehind m c.lists
    raw.lists)
    (steps : AreSameSteps c.steps raw.steps) where
  pub read_same : SameCertificate (certificate_of c) (certificate_in raw)
  read_same = record {
    lists = λ v. zip_at (ArePolysOf m) (λ ps qs. AllSame ℚ ps qs) polys_in [] []
        (λ ps qs h. stands_same m ps.items qs h) nothing_same c.lists.items ([] ∷ raw.lists) lists
        v;
    steps = λ j i.
        subst (λ qs. AllSame ℚ (get_or (get_or (map (map row_of) (map rows_of c.steps.items)) j [])
        i
        []) (get_or qs i [])) (sym (get_map (map full_row) raw.steps j []))
        (subst (λ rs. AllSame ℚ (get_or (get_or rs j []) i [])
        (get_or (map full_row (get_or raw.steps j [])) i []))
        (sym (map_twice rows_of (map row_of) c.steps.items))
        (zip_at AreSameRows SameRows (λ rows. map row_of (rows_of rows)) [] []
        (λ rows raws h. rows_same rows raws h) (λ k. nothing_same) c.steps.items raw.steps steps j
        i));
  }
