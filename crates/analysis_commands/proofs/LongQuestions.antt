-- Where `member` tells `limit: PLACE`.
--   member_limit     no fault of LOOP or of EQUATION, and no other refusal, has such a text; the analysis has come to the task at this place, which is too long
use Rattle.std.proofs.Common.{◌≡◌, ℕ, List, sym, ap, ◌∙◌, inl, inr, arith}
use Rattle.std.specs.Prelude.{◌⊎◌, Some}
use Rattle.algebra.specs.Fraction.{Fraction}
use Rattle.polynomials.specs.Terms.{Terms}
use Rattle.machines.specs.Journal.{Journal}
use Rattle.loops.specs.Program.{Expr, Program}
use Rattle.poly_text.specs.Reasons.{Fault, limit, wide}
use Rattle.loop_model.specs.declared.map_error.MapError.{MapError}
use Rattle.loop_model.specs.declared.map_error.MapError.TheVariants as map_error
use Rattle.divide.specs.declared.EngineError.{EngineError}
use Rattle.divide.specs.declared.EngineError.TheVariants as engine_error
use Rattle.io_edge.specs.Texts.{Answer}
use Rattle.io_edge.proofs.OfStatuses.{no_answer, some_answer, text_of}
use Rattle.command_parts.specs.EquationReading.{equation_refusal, stop_answer}
use Rattle.analysis_commands.specs.MemberCauses.{IsUndecided}
use Rattle.analysis_commands.specs.MemberClauses.{AsksNothing}
use Rattle.analysis_commands.specs.Questions.{Decision, unanalysed, undivided, yes, no, DecidesWith, decision_answer, undivided_answer, positive_answer, negative_answer}
use Rattle.analysis_commands.specs.RefusalTexts.{member_text}
use Rattle.analysis_commands.specs.LongTasks.{limit_text, IsLongLoop, IsToldLong}
use Rattle.analysis_commands.proofs.LongTasks.{first_byte, told_long, loop_fault_long}
use Rattle.analysis_commands.proofs.MemberStatuses.{division_parts}

fault_other : (fault : Fault) (a : Answer) (place : List ℕ) → a ≡ equation_refusal fault
    → a.text ≡ limit_text place → ⊥
unfolding first_byte
fault_other fault a place is said =
    let x : 101 ≡ 108 = ap first_byte (sym (text_of is) ∙ said) in omega (arith, x)

stop_other : (stop : MapError) (a : Answer) (place : List ℕ) → stop_answer stop ≡ Some a
    → a.text ≡ limit_text place → ⊥
stop_other (map_error.Limit at) a place says said =
    let fault : Fault = record { reason = limit; at = at } in
    fault_other fault a place (some_answer (equation_refusal fault) a says) said
stop_other (map_error.Wide at) a place says said =
    let fault : Fault = record { reason = wide; at = at } in
    fault_other fault a place (some_answer (equation_refusal fault) a says) said
stop_other map_error.Memory a place says said = no_answer a says

module _ (l : Program (Expr ℕ)) (p : Terms Fraction) (budget : ℕ) (m : Journal) (a : Answer)
    (place : List ℕ) (said : a.text ≡ limit_text place) where
  undivided_other : (x : EngineError) → undivided_answer budget x ≡ Some a → ⊥
  unfolding first_byte
  undivided_other engine_error.Wide says =
      let same : a.text ≡ member_text budget engine_error.Wide =
      (division_parts budget engine_error.Wide a says).1 in
      let x : 119 ≡ 108 = ap first_byte (sym same ∙ said) in omega (arith, x)
  undivided_other engine_error.Budget says =
      let same : a.text ≡ member_text budget engine_error.Budget =
      (division_parts budget engine_error.Budget a says).1 in
      let x : 98 ≡ 108 = ap first_byte (sym same ∙ said) in omega (arith, x)
  undivided_other engine_error.Memory says = no_answer a says

  decision_long : (d : Decision) → DecidesWith l p budget m d
      → decision_answer l.names budget d ≡ Some a → IsLongLoop l m place
  unfolding first_byte
  decision_long (unanalysed x) ends says = told_long l budget m a place x ends says said
  decision_long (undivided x) ends says = absurd (undivided_other x says)
  decision_long (yes qs) ends says =
      let same = text_of (some_answer (positive_answer l.names qs) a says) in
      let x : 121 ≡ 108 = ap first_byte (sym same ∙ said) in absurd (omega (arith, x))
  decision_long no ends says =
      let same = text_of (some_answer negative_answer a says) in
      let x : 110 ≡ 108 = ap first_byte (sym same ∙ said) in absurd (omega (arith, x))

nothing_other : (text equation : List ℕ) (a : Answer) (place : List ℕ)
    → AsksNothing text equation a → a.text ≡ limit_text place → ⊥
nothing_other text equation a place (inl fault) said = loop_fault_long text a place fault said
nothing_other text equation a place (inr (inl fault)) said =
    fault_other fault.fault a place fault.says said
nothing_other text equation a place (inr (inr stop)) said =
    stop_other stop.unformed.stop a place stop.unformed.says said

pub member_limit : (equation : List ℕ) (budget : ℕ) (before m : Journal) (text : List ℕ)
    (a : Answer) (place : List ℕ)
    → (AsksNothing text equation a × (m ≡ before)) ⊎ IsUndecided text equation budget m a
    → a.text ≡ limit_text place → IsToldLong text m place
member_limit equation budget before m text a place (inl h) said =
    absurd (nothing_other text equation a place h.0 said)
member_limit equation budget before m text a place (inr h) said =
    let k = h.asks in
    record {
      loop = h.asking.loop;
      is_loop = h.asking.is_loop;
      is = decision_long h.asking.loop _ budget m a place said k.decision k.ends k.says;
    }
