-- What names stand for, as expressions in the values of the variables before a branch.
--   substitute es e             e with the expressions es for its names
--   expressions_after cs es     what the names stand for after the statements cs, if they stand for es before
--   places m                    the numbers below m
--   in_one program cs           the branch cs as one statement, which sets each variable to what it stands for after cs
--   without_locals program      the program with its branches so: it has no local names
use Rattle.std.specs.Prelude.{ℕ, zero, suc, pos, List, [], ◌∷◌, ◌++◌, map, get_or, take, replicate, length}
use Rattle.loops.specs.Program.{Expr, number, variable, neg, add, sub, mul, divide, power, Statement, Program}
use Rattle.loops.specs.Effect.{store}

unfoldable pub substitute : {At : Type 0} → List (Expr At) → Expr At → Expr At
substitute es (number n) = number n
substitute es (variable i) = get_or es i (number (pos 0))
substitute es (neg at e) = neg at (substitute es e)
substitute es (add at e f) = add at (substitute es e) (substitute es f)
substitute es (sub at e f) = sub at (substitute es e) (substitute es f)
substitute es (mul at e f) = mul at (substitute es e) (substitute es f)
substitute es (divide at e n) = divide at (substitute es e) n
substitute es (power at e n) = power at (substitute es e) n

unfoldable pub expressions_after : {At : Type 0} → List (Statement (Expr At)) → List (Expr At)
    → List (Expr At)
expressions_after [] es = es
expressions_after (c ∷ cs) es =
    expressions_after cs (store c.targets (map (substitute es) c.values) es)

unfoldable pub places : ℕ → List ℕ
places zero = []
places (suc m) = zero ∷ map suc (places m)

abbrev pub in_one : {At : Type 0} → Program (Expr At) → List (Statement (Expr At))
    → List (Statement (Expr At))
in_one program cs =
    let m = length program.names in
    let before = map variable (places m) ++ replicate (length program.locals) (number (pos 0)) in
    record { targets = places m; values = take m (expressions_after cs before) } ∷ []

abbrev pub without_locals : {At : Type 0} → Program (Expr At) → Program (Expr At)
without_locals program =
    record program { locals = []; branches = map (in_one program) program.branches }
