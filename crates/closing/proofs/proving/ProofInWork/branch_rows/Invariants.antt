use Rattle.std.proofs.Common.{◌≡◌, ◌<◌, ◌≤◌, ◌++◌, ℕ, suc, [], List, get_or, drop, length, All}
use Rattle.std.specs.Global.{Vec}
use Rattle.algebra.specs.Fraction.{Fraction}
use Rattle.polynomials.specs.Terms.{Terms}
use Rattle.ideal_ops.specs.Calls.{AreOver}
use Rattle.loop_model.specs.FracPoly.{FracPoly}
use Rattle.closures.specs.Certified.{IsRowOf}
use Rattle.closures.specs.Proving.{Test, tests_of, AwaitsTests}
use Rattle.closing.specs.Proving.{program_by, list_by, closure_by, seen_rows}
use Rattle.closing.proofs.proving.ProofInWork.branch_rows.Given as goal

abbrev pub invariant-loop-place : goal.invariant-loop-place
invariant-loop-place l =
    let program = program_by l.self in
    let bs = list_by l.self in
    let gs = closure_by l.self in
    record {
      limit : l.meter.limit ≡ l.fn.meter.limit;
      within : l.place ≤ length l.self.elements.list.items;
      count : length l.rows.items ≡ l.place;
      each : (i : ℕ) → i < length (seen_rows l.rows.items)
          → IsRowOf program gs l.self.elements.places.items (length bs) l.letter
          (get_or bs i []) (get_or (seen_rows l.rows.items) i []);
      widths : All (λ (row : Vec FracPoly). length row.items ≡ length l.self.elements.list.items)
          l.rows.items;
      arities : All (λ (row : Vec FracPoly). AreOver (length program.names) row.items)
          l.rows.items;
      passes : (P : List (Terms Fraction)) (w : List Test)
          → AwaitsTests program P gs bs l.fn.meter.entries (tests_of l.letter 1 bs ++ w)
          → AwaitsTests program P gs bs l.meter.entries
          (tests_of l.letter (suc l.place) (drop l.place bs) ++ w);
    }
