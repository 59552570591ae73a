-- Written forms, as the forms of a setting.
--   form_is     the form of a branch is the one that is written
use Rattle.std.proofs.Common.{◌≡◌, ℕ, zero, suc, List, [], ◌∷◌, map, get_or, refl}
use Rattle.corollaries.specs.Full.{WrittenForm, as_form}

pub form_is : (written : List WrittenForm) (b : ℕ)
    → get_or (map as_form written) b (record { base = []; polys = []; since = 0 })
    ≡ as_form (get_or written b (record { base = []; polys = [] }))
form_is [] b = refl
form_is (f ∷ fs) zero = refl
form_is (f ∷ fs) (suc b) = form_is fs b
