use Rattle.std.proofs.Common.{◌≡◌, ◌<◌, ◌≤◌, ◌-◌, ℕ, suc, [], get_or, map, length, All}
use Rattle.std.specs.Global.{Vec}
use Rattle.poly.specs.Seen.{terms_each}
use Rattle.loop_model.specs.FracPoly.{FracPoly}
use Rattle.closures.specs.Proving.{tests_from, AwaitsTests}
use Rattle.closing.specs.LoopMaps.{program_in}
use Rattle.closing.specs.Proving.{seen_rows, AreRows, IsSquare}
use Rattle.closing.proofs.loop_maps.LoopMaps.proof_of.Given as goal

abbrev pub invariant-loop-place : goal.invariant-loop-place
invariant-loop-place l =
    let program = program_in l.self in
    let elements = l.proof.elements in
    let bs = terms_each elements.list.items in
    record {
      limit : l.meter.limit ≡ l.fn.meter.limit;
      within : l.place ≤ length program.branches;
      count : length l.steps.items ≡ l.place;
      each : (b : ℕ) → b < length (map (λ (rows : Vec (Vec FracPoly)). seen_rows rows.items)
          l.steps.items)
          → AreRows program l.closure elements (suc b)
          (get_or (map (λ (rows : Vec (Vec FracPoly)). seen_rows rows.items) l.steps.items) b []);
      squares : All (λ (rows : Vec (Vec FracPoly)).
          IsSquare (length program.names) (length elements.list.items) rows.items) l.steps.items;
      awaits : AwaitsTests program (terms_each l.polynomials) (terms_each l.closure) bs
          l.meter.entries (tests_from (suc l.place) (length program.branches - l.place) bs);
    }
