use Rattle.std.proofs.Common.{◌≡◌, ◌<◌, ◌≤◌, ℕ, length, map, take}
use Rattle.std.specs.Prelude.{All}
use Rattle.polynomials.specs.Order.{grevlex}
use Rattle.solvable_maps.specs.Iterations.{width}
use Rattle.rounds.specs.Form.{inverse_form}
use Rattle.poly.specs.Seen.{terms_each}
use Rattle.poly.specs.Standing.{IsInVariables}
use Rattle.coprime_base.specs.Sizes.{sizes}
use Rattle.cert_checker.specs.Passing.{PassesAt}
use Rattle.cert_checker.proofs.form_check.closed_form.Given as goal

abbrev pub invariant-loop-place : goal.invariant-loop-place
invariant-loop-place l =
    let bs = sizes l.base.items in
    record {
      within : l.place ≤ length l.polys.items;
      passes : (j : ℕ) → j < l.place
          → PassesAt bs (terms_each l.images.items) (terms_each l.polys.items) j;
      backs : terms_each l.found.items
          ≡ map (inverse_form grevlex (length bs)) (take l.place (terms_each l.polys.items));
      over : All (IsInVariables (width (length bs) (length l.images.items))) l.found.items;
    }
