-- Sums in texts of sequences: what the reader of sums reads is what the language of sequences reads, and its faults are retold.
--   value_read, value_told       of a value that is given
--   next_read, next_told         of a recurrence
use Rattle.std.proofs.Common.{◌≡◌, ◌≤◌, ℕ, List, length, refl, sym, ap, subst, ◌∙◌, Option, Some, None, option_map, unwrap_or, arith, Ok, Err, IfSome}
use Rattle.grammars.specs.Grammar.{rule}
use Rattle.grammars.specs.Embedded.{Embedding, IsEmbedded, part, with_part, answer_in}
use Rattle.grammars.specs.Reader.{ReadResult, reads, refused, unended, parsed}
use Rattle.grammars.proofs.Lifted.{lifted_read}
use Rattle.poly_text.specs.Lexemes.{Lexeme, Placed}
use Rattle.poly_text.specs.Reasons.{Reason, syntax, Fault}
use Rattle.poly_text.specs.Faults.{fault_of}
use Rattle.poly_text.specs.Sums.{SumContext, SumValue, SumState, SumRule, a_sum, sum_language}
use Rattle.poly_text.specs.Telling as telling
use Rattle.poly_text.specs.Told.{Told, told}
use Rattle.poly_text.specs.declared.error.TextError.{TextError}
use Rattle.poly_text.specs.declared.error.TextError.TheVariants.{Syntax, Limit, Wide, Twice, Unknown, InitUses, Unset, Divisor, Memory}
use Rattle.grammars.specs.Retold.{retold_language, retold_answer}
use Rattle.grammars.proofs.Retelling.{retold_read}
use Rattle.loop_text.specs.Seqs.{SeqContext, SeqValue, SeqState, SeqRule, Rule, seq_language}
use Rattle.loop_text.specs.SequenceStates.{reading, IsFault}
use Rattle.loop_text.specs.Standing.{AreTokens}
use Rattle.loop_text.specs.Telling.{told_at, next_in, retold_fault, Retells}
use Rattle.loop_text.proofs.Standing.{IsThere, Found, parsed_found}

module _ (r : Lexeme → Reason → Reason) (keeps : (x : Lexeme) → r x syntax ≡ syntax)
    (E : Embedding SumRule SeqRule SeqContext SumContext SeqValue SumValue)
    (embedded : IsEmbedded E (retold_language r sum_language) seq_language)
    (s : SeqState) (ts : List Placed) where
  abbrev sum_answer : ReadResult Lexeme SumContext SumValue Reason
  sum_answer = parsed sum_language (rule a_sum) (part E s) ts

  abbrev sum_told : Told SumContext SumValue
  sum_told = telling.reading sum_language (rule a_sum) (part E s) ts

  abbrev here : Rule
  here = rule (E.rule_of a_sum)

  answer_is : parsed seq_language (rule (E.rule_of a_sum)) s ts
      ≡ answer_in E (retold_answer r sum_answer) s
  answer_is =
      lifted_read E (retold_language r sum_language) seq_language embedded (rule a_sum) s ts
      ∙ ap (λ a. answer_in E a s) (retold_read r sum_language (rule a_sum) (part E s) ts)

  pub sum_read : (t : SumState) (us : List Placed) → Ok (t, us) ≡ sum_told
      → Ok (with_part E t s, us) ≡ reading (rule (E.rule_of a_sum)) s ts
  unfolding telling.reading
  sum_read t us e = go sum_answer e ∙ ap told (sym answer_is)
    where
      go : (a : ReadResult Lexeme SumContext SumValue Reason) → Ok (t, us) ≡ told a
          → Ok (with_part E t s, us) ≡ told (answer_in E (retold_answer r a) s)
      go (reads u vs) e =
          let same : ◌≡◌ {A = SumState × List Placed} (t, us) (u, vs) = cc in
          ap (λ (p : SumState × List Placed). Ok (with_part E p.0 s, p.1)) same
      go (refused x why) e = absurd (cc)
      go unended e = absurd (cc)

  module _ (text : List ℕ) (stand : AreTokens text ts) where
    there : (x : Placed) (why : Option Reason) → sum_answer ≡ refused x why → IsThere text x
    there x why e =
        subst (Found text) (answer_is ∙ ap (λ a. answer_in E (retold_answer r a) s) e)
        (parsed_found text (rule (E.rule_of a_sum)) refl s ts stand)

    reason : (x : Placed) (why : Option Reason) → IsThere text x
        → unwrap_or (option_map (r x.lexeme) why) syntax
        ≡ r (next_in text x.at) (unwrap_or why syntax)
    reason x None h = sym (keeps (next_in text x.at))
    reason x (Some w) h = ap (λ l. r l w) (sym h.lexeme)

    retold_there : (a : ReadResult Lexeme SumContext SumValue Reason) → sum_answer ≡ a → (f : Fault)
        → Err f ≡ told a
        → (Err (retold_fault r text f) ≡ told (answer_in E (retold_answer r a) s))
        × (f.at ≤ length text)
    retold_there (reads u vs) q f e = absurd (cc)
    retold_there (refused x why) q f e =
        let h = there x why q in
        let same : f ≡ record { reason = unwrap_or why syntax; at = x.at } = cc in (
          ap (λ (g : Fault). Err (retold_fault r text g)) same
              ∙ ap (λ w. Err (record { reason = w; at = x.at })) (sym (reason x why h)),
          subst (λ (g : Fault). g.at ≤ length text) (sym same) h.within,
        )
    retold_there unended q f e =
        let same : f ≡ record { reason = syntax; at = 0 } = cc in (
          ap (λ (g : Fault). Err (retold_fault r text g)) same
              ∙ ap (λ w. Err (record { reason = w; at = 0 })) (keeps (next_in text 0)),
          subst (λ (g : Fault). g.at ≤ length text) (sym same) (omega arith),
        )

    fault_there : (f : Fault) → Err f ≡ sum_told
        → (Err (retold_fault r text f) ≡ reading (rule (E.rule_of a_sum)) s ts)
        × (f.at ≤ length text)
    unfolding telling.reading
    fault_there f e =
        let h = retold_there sum_answer refl f e in (h.0 ∙ ap told (sym answer_is), h.1)

    -- an error of the reader of sums is within the text; told so, it is a fault here
    pub error_within : (e : TextError)
        → IfSome (option_map Err (fault_of e)) (λ (x : Told SumContext SumValue). x ≡ sum_told)
        → IfSome (told_at e) (λ at. at ≤ length text)
    error_within (Syntax at) h = tt
    error_within (Limit at) h = (fault_there _ h).1
    error_within (Wide at) h = (fault_there _ h).1
    error_within (Twice at) h = (fault_there _ h).1
    error_within (Unknown at) h = (fault_there _ h).1
    error_within (InitUses at) h = (fault_there _ h).1
    error_within (Unset at) h = (fault_there _ h).1
    error_within (Divisor at) h = (fault_there _ h).1
    error_within Memory h = tt

    pub error_told : (e d : TextError)
        → IfSome (option_map Err (fault_of e)) (λ (x : Told SumContext SumValue). x ≡ sum_told)
        → Retells r text e d
        → IsFault d (reading (rule (E.rule_of a_sum)) s ts)
    error_told e d h tells = go (fault_of e) h tells
      where
        go : (o : Option Fault)
            → IfSome (option_map Err o) (λ (x : Told SumContext SumValue). x ≡ sum_told)
            → fault_of d ≡ option_map (retold_fault r text) o
            → IfSome (option_map Err (fault_of d))
            (λ (x : Told SeqContext SeqValue). x ≡ reading (rule (E.rule_of a_sum)) s ts)
        go None h q = subst (λ o. IfSome (option_map Err o)
            (λ (x : Told SeqContext SeqValue). x ≡ reading (rule (E.rule_of a_sum)) s ts))
            (sym q) tt
        go (Some f) h q = subst (λ o. IfSome (option_map Err o)
            (λ (x : Told SeqContext SeqValue). x ≡ reading (rule (E.rule_of a_sum)) s ts)) (sym q)
            (fault_there f h).0
