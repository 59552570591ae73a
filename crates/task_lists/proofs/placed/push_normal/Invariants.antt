use Rattle.std.proofs.Common.{ℕ, List, All, ◌++◌, drop, length, map}
use Rattle.algebra.specs.Fraction.{Fraction}
use Rattle.polynomials.specs.Order.{grevlex, blocks}
use Rattle.polynomials.specs.Polynomial.{AllArity}
use Rattle.polynomials.specs.Terms.{Terms}
use Rattle.poly.specs.Seen.{terms_each}
use Rattle.poly.specs.Standing.{IsInVariables, AllStandFor}
use Rattle.coprime_base.specs.Sizes.{sizes}
use Rattle.rounds.specs.Form.{normal}
use Rattle.task_lists.specs.Placed.{HaveBlock}
use Rattle.task_lists.proofs.Placing.{IsLeft}
use Rattle.task_lists.proofs.placed.push_normal.Given as goal

abbrev pub invariant-loop-p : goal.invariant-loop-p
invariant-loop-p l =
    let f = normal (blocks l.first grevlex grevlex) (length (sizes l.base.items)) in
    record {
      normal : (w : ℕ) (qs : List (Terms Fraction)) → AllStandFor w l.list qs → AllArity w qs
          → IsLeft w f (drop l.p-index l.list) l.gens.items
          (terms_each l.initial.gens.items ++ map f qs);
      block : (w : ℕ) → All (IsInVariables w) l.list → HaveBlock l.first w l.initial.gens.items
          → HaveBlock l.first w l.gens.items;
    }
