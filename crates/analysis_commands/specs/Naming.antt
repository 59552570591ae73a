-- Which variables a refusal names.
--   AreBelow n is                each of the places is one of the first n
--   AreNamedIn n e, AreNamed n e     each variable that the refusal of a branch, or of an analysis, names is one of the first n
use Rattle.std.specs.Prelude.{ℕ, ◌<◌, ⊤, List, All}
use Rattle.closed_forms.specs.declared.errors.FormsError.{FormsError}
use Rattle.closed_forms.specs.declared.errors.FormsError.TheVariants as forms_error
use Rattle.invariant_fix.specs.declared.errors.AnalyseError.{AnalyseError}
use Rattle.invariant_fix.specs.declared.errors.AnalyseError.TheVariants.{Map, Branch, Limit, Wide, Budget, Memory}

abbrev pub AreBelow : ℕ → List ℕ → Type 0
AreBelow n is = All (λ i. i < n) is

abbrev pub AreNamedIn : ℕ → FormsError → Type 0
AreNamedIn n (forms_error.NotSolvable cycle) = AreBelow n cycle.items
AreNamedIn n (forms_error.Eigen class) = AreBelow n class.items
AreNamedIn n (forms_error.Range class sum) = AreBelow n class.items
AreNamedIn n (forms_error.WideSplit class candidate power row) = AreBelow n class.items
AreNamedIn n (forms_error.LimitForm variable) = variable < n
AreNamedIn n (forms_error.WideForm variable) = variable < n
AreNamedIn n forms_error.Memory = ⊤

abbrev pub AreNamed : ℕ → AnalyseError → Type 0
AreNamed n (Map e) = ⊤
AreNamed n (Branch b e) = AreNamedIn n e
AreNamed n (Limit task) = ⊤
AreNamed n (Wide task) = ⊤
AreNamed n Budget = ⊤
AreNamed n Memory = ⊤
