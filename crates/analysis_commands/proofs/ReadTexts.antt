-- Texts that are read as the loops and the questions of the witnesses. The offsets are those of
-- the operators in the texts.
--   X_text, X_read              the text, and what it is read as
--   empty_read, silent_read     the fault of the empty text, as a loop and as an equation
--   yes_asks, no_asks           the premise `AsksOf` of a call, where the outside tells the text of
--                               one of the loops
use Rattle.std.proofs.Common.{◌≡◌, ℕ, List, [], Some, Ok, Err, refl, sym, subst, codes}
use Rattle.grammars.specs.Reader.{read}
use Rattle.loops.specs.Limits.{most_names, most_bytes, most_branches, most_statements, most_operators, most_exponent}
use Rattle.loops.specs.Program.{Expr, Statement}
use Rattle.loops.specs.WellFormed.{local_places}
use Rattle.loop_model.specs.Words.{keyword_of}
use Rattle.poly_text.specs.Lexemes.{lexeme_at, placed_behind}
use Rattle.poly_text.specs.Reasons.{Fault, syntax}
use Rattle.poly_text.specs.Sums.{most_depth}
use Rattle.poly_text.specs.Equations.{equation_of}
use Rattle.loop_text.specs.LoopReader.{loop_of}
use Rattle.io_edge.specs.Outcome.{Call}
use Rattle.command_parts.specs.Equations.{equation_in}
use Rattle.analysis_commands.specs.MemberArguments.{Request}
use Rattle.analysis_commands.specs.MemberClauses.{AsksOf}
use Rattle.analysis_commands.proofs.IdleRuns.{x_loop}
use Rattle.analysis_commands.proofs.IdleLoops.{one_loop, two_loop}
use Rattle.analysis_commands.proofs.IdleQuestions.{yes_question, no_question, yes_free, no_free}
use Rattle.analysis_commands.proofs.ResetMap.{reset_loop}
use Rattle.analysis_commands.proofs.SquareMap.{square_loop}
use Rattle.analysis_commands.proofs.PassedLimits.{high_loop, high_question}

-- ---- loops
abbrev pub one_text : List ℕ
one_text = codes "vars x; branch {}"

abbrev pub two_text : List ℕ
two_text = codes "vars x; branch {} branch {}"

abbrev pub reset_text : List ℕ
reset_text = codes "vars x; branch { x = 0; }"

abbrev pub square_text : List ℕ
square_text = codes "vars x; branch { x = x*x; }"

abbrev pub high_text : List ℕ
high_text = codes "vars x; branch { x = (x^16)^5; }"

abbrev nowhere : Fault
nowhere = record { reason = syntax; at = 0 }

pub empty_read : loop_of [] ≡ Err nowhere
unfolding placed_behind lexeme_at read
empty_read = refl

pub one_read : loop_of one_text ≡ Ok one_loop
unfolding placed_behind lexeme_at read keyword_of most_names most_bytes most_branches
    most_statements most_operators most_exponent most_depth
one_read = refl

pub two_read : loop_of two_text ≡ Ok two_loop
unfolding placed_behind lexeme_at read keyword_of most_names most_bytes most_branches
    most_statements most_operators most_exponent most_depth
two_read = refl

pub reset_read : loop_of reset_text ≡ Ok reset_loop
unfolding placed_behind lexeme_at read keyword_of most_names most_bytes most_branches
    most_statements most_operators most_exponent most_depth
reset_read = refl

pub square_read : loop_of square_text ≡ Ok (square_loop 22)
unfolding placed_behind lexeme_at read keyword_of most_names most_bytes most_branches
    most_statements most_operators most_exponent most_depth local_places
square_read = refl

pub high_read : loop_of high_text ≡ Ok (high_loop 23 27)
unfolding placed_behind lexeme_at read keyword_of most_names most_bytes most_branches
    most_statements most_operators most_exponent most_depth local_places
high_read = refl

-- ---- equations
abbrev pub yes_text : List ℕ
yes_text = codes "x = x"

abbrev pub no_text : List ℕ
no_text = codes "x = 0"

abbrev pub high_equation_text : List ℕ
high_equation_text = codes "(x^16)^5 = 0"

pub silent_read : equation_in one_loop.names [] ≡ Err nowhere
unfolding equation_of placed_behind lexeme_at read
silent_read = refl

pub yes_read : equation_in one_loop.names yes_text ≡ Ok (yes_question 2)
unfolding equation_of placed_behind lexeme_at read keyword_of most_names most_bytes most_operators
    most_exponent most_depth
yes_read = refl

pub no_read : equation_in one_loop.names no_text ≡ Ok (no_question 2)
unfolding equation_of placed_behind lexeme_at read keyword_of most_names most_bytes most_operators
    most_exponent most_depth
no_read = refl

pub high_equation_read : equation_in one_loop.names high_equation_text ≡ Ok (high_question 2 6 9)
unfolding equation_of placed_behind lexeme_at read keyword_of most_names most_bytes most_operators
    most_exponent most_depth
high_equation_read = refl

-- ---- questions of a call, to any of the loops
module _ (call : Call) (request : Request) (text : List ℕ)
    (branches : List (List (Statement (Expr ℕ))))
    (told : call.files.before.told request.file ≡ Some text)
    (is_loop : loop_of text ≡ Ok (x_loop branches)) where
  pub yes_asks : request.equation ≡ yes_text
      → AsksOf call request (x_loop branches) (yes_question 2)
  yes_asks asked = record {
    reads = record {
      loop = record { text = text; is_told = told; reads = is_loop };
      reads = subst (λ text. equation_in one_loop.names text ≡ Ok (yes_question 2)) (sym asked)
          yes_read;
    };
    free = yes_free 2;
  }

  pub no_asks : request.equation ≡ no_text
      → AsksOf call request (x_loop branches) (no_question 2)
  no_asks asked = record {
    reads = record {
      loop = record { text = text; is_told = told; reads = is_loop };
      reads = subst (λ text. equation_in one_loop.names text ≡ Ok (no_question 2)) (sym asked)
          no_read;
    };
    free = no_free 2;
  }
