-- What the words of a run ask for, where there are letters and where there are none.
--   with_letters, no_letters      by what was found of its letters
use Rattle.std.proofs.Common.{◌≡◌, ℕ, List, Result, refl, subst}
use Rattle.std.specs.Prelude.{Option, Some, None}
use Rattle.std.specs.declared.alloc.AllocError.{AllocError}
use Rattle.algebra.specs.Fraction.{Fraction}
use Rattle.replay_commands.specs.declared.run_arguments.Request as made
use Rattle.command_parts.specs.Lookup.{IsFound}
use Rattle.replay_commands.specs.RunViews.{view}
use Rattle.replay_commands.specs.RunArguments.{request_of}

pub with_letters : (r : Result (Option made.Request) AllocError) (file word : List ℕ)
    (letters : Option (List ℕ)) (values : Option (List Fraction))
    → Some word ≡ letters → IsFound view r (request_of file (Some word) values)
    → IsFound view r (request_of file letters values)
with_letters r file word letters values e h =
    subst (λ x. IsFound view r (request_of file x values)) e h

pub no_letters : (file : List ℕ) (letters : Option (List ℕ)) (values : Option (List Fraction))
    → None ≡ letters → None ≡ request_of file letters values
no_letters file letters values e = subst (λ x. None ≡ request_of file x values) e refl
