-- PROGRAM as it is read, and the refusals of `checkproof`.
--   fault_beside          a fault of a text is one of its source;  program_there: a source is of a program
--   program_refuses, certificate_refuses     the answers to faults are refusals
use Rattle.std.proofs.Common.{◌≡◌, ℕ, List, refl, sym, ap, subst, Result, Ok, Err}
use Rattle.std.specs.Prelude.{Option, Some, None, IfSome, option_map, codes}
use Rattle.loops.specs.Program.{Expr}
use Rattle.poly_text.specs.Reasons.{Fault}
use Rattle.cert_form.specs.Form as form
use Rattle.program_model.specs.Program.{Program}
use Rattle.program_text.specs.ProgramReader.{text_of}
use Rattle.io_edge.specs.Texts.{Answer}
use Rattle.io_edge.specs.Settled.{IsRefusing}
use Rattle.io_edge.proofs.OfStatuses.{status_of, refusing_fault}
use Rattle.command_parts.proofs.LoopCourses.{text_refuses}
use Rattle.checkproof_command.specs.Sources.{Source, beside, source_of, program_refusal}
use Rattle.checkproof_command.specs.Texts.{certificate_refusal}

pub fault_beside : (f : Option Fault) (text : List ℕ)
    → IfSome (option_map Err f) (λ (r : Result (Program (Expr ℕ)) Fault). r ≡ text_of text)
    → IfSome (option_map Err f) (λ (r : Result Source Fault). r ≡ source_of text)
fault_beside None text h = tt
fault_beside (Some f) text h = ap (beside text) h

go_beside : (text : List ℕ) (r : Result (Program (Expr ℕ)) Fault) (s : Source)
    → beside text r ≡ Ok s → (s.text ≡ text) × (r ≡ Ok s.program)
go_beside text (Ok p) s h = (cc, cc)
go_beside text (Err f) s h = absurd (cc)

pub program_there : (text : List ℕ) (s : Source) → source_of text ≡ Ok s
    → (s.text ≡ text) × (text_of text ≡ Ok s.program)
program_there text s h = go_beside text (text_of text) s h

pub program_refuses : (fault : Fault) (a : Answer) → a ≡ program_refusal fault
    → IsRefusing a.status
program_refuses = text_refuses (codes "program: ")

by_fault : (fault : form.Fault) → IsRefusing (certificate_refusal fault).status
by_fault form.not_json = refusing_fault _ refl
by_fault (form.shape path) = refusing_fault _ refl
by_fault (form.polynomial path) = refusing_fault _ refl

pub certificate_refuses : (fault : form.Fault) (a : Answer) → a ≡ certificate_refusal fault
    → IsRefusing a.status
certificate_refuses fault a e = subst IsRefusing (sym (status_of e)) (by_fault fault)
