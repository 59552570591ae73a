-- Where `chain` tells `limit: PLACE` of a loop.
--   first_colon       two texts that begin with numbers and a colon have the same number and the same rest
--   limit_written_in  what holds of an answer with such a text holds of what was written
--   chain_limit       no fault of CHAIN, and no other refusal, has such a text; the loop's analysis has come to the task at this place, which is too long
use Rattle.std.proofs.Common.{◌≡◌, ℕ, zero, suc, ◌+◌, List, [], ◌∷◌, ◌++◌, refl, sym, ap, ap₂, subst, ◌∙◌, true, false, arith, get_or, Some, inl, inr}
use Rattle.std.specs.Prelude.{◌⊎◌, Bool, if◌then◌else◌, ◌&&◌, not, ◌==◌, ◌/◌, ◌%◌, nat_lt, codes, decimal}
use Rattle.std.specs.List.{list_all}
use Rattle.std.specs.Fmt.{digits, digits_onto, digit_glyph}
use Rattle.std.proofs.lemmas.Bool.{and_parts, ltb-true}
use Rattle.std.proofs.lemmas.Bool.Decides.{nat_tests}
use Rattle.std.proofs.lemmas.List.{append_cancel_left, append_assoc}
use Rattle.algebra.proofs.Basics.{same_head, same_tail}
use Rattle.machines.specs.Journal.{Journal}
use Rattle.invariant_fix.specs.Bases.{IsRefusedAt}
use Rattle.invariant_fix.specs.declared.errors.AnalyseError.{AnalyseError}
use Rattle.invariant_fix.specs.declared.errors.AnalyseError.TheVariants as error
use Rattle.invariant_fix.specs.declared.refused.LoopError.{LoopError}
use Rattle.invariant_fix.specs.declared.refused.LoopError.TheVariants as loop_error
use Rattle.io_edge.specs.declared.answer.Status.TheVariants as status
use Rattle.io_edge.specs.Texts.{Answer, with_text}
use Rattle.io_edge.specs.Outcome.{Call}
use Rattle.io_edge.specs.Clauses.{Wrote, IfTold}
use Rattle.io_edge.proofs.Outcomes.{if_told}
use Rattle.io_edge.proofs.OfStatuses.{some_answer, text_of}
use Rattle.command_parts.specs.ChainReading.{IsChainFault}
use Rattle.analysis_commands.specs.ChainAnalyses.{between_answer, error_answer}
use Rattle.analysis_commands.specs.ChainCauses.{IsUnanalysed, limit_text_in, IfLimitIn, IsToldLong}
use Rattle.analysis_commands.specs.LongTasks.{limit_text}
use Rattle.analysis_commands.proofs.ChainAnalysing.{told_of}
use Rattle.analysis_commands.proofs.LongTasks.{IsLimit, first_byte, limit_alone}

-- ---- numbers have no colon
is_plain : List ℕ → Bool
is_plain text = list_all (λ c. not (c == 58)) text

not_colon : (c : ℕ) (more : Bool) → 58 ≡ c → (not (c == 58) && more) ≡ true → ⊥
not_colon c more same is = let no : not (58 == 58) ≡ true = subst (λ k. not (k == 58) ≡ true)
    (sym same) (and_parts (not (c == 58)) more is).0 in let z : false ≡ true = no in cc

first_colon : (xs ys us vs : List ℕ) → is_plain xs ≡ true → is_plain ys ≡ true
    → xs ++ 58 ∷ us ≡ ys ++ 58 ∷ vs → (xs ≡ ys) × (us ≡ vs)
unfolding is_plain
first_colon [] [] us vs h k e = (refl, same_tail e)
first_colon [] (y ∷ ys) us vs h k e = absurd (not_colon y (is_plain ys) (same_head e) k)
first_colon (x ∷ xs) [] us vs h k e = absurd (not_colon x (is_plain xs) (sym (same_head e)) h)
first_colon (x ∷ xs) (y ∷ ys) us vs h k e =
    let rest = first_colon xs ys us vs (and_parts (not (x == 58)) (is_plain xs) h).1
    (and_parts (not (y == 58)) (is_plain ys) k).1 (same_tail e) in
    (ap₂ ◌∷◌ (same_head e) rest.0, rest.1)

glyph_plain : (d : ℕ) → not (digit_glyph false d == 58) ≡ true
glyph_plain d = go (nat_lt d 10) refl
  where
    go : (b : Bool) → nat_lt d 10 ≡ b → not ((if b then 48 + d else 87 + d) == 58) ≡ true
    go true is =
        let few = ltb-true d 10 is in
        let other : (48 + d == 58) ≡ false = grind (arith, nat_tests, few) in ap not other
    go false is = let other : (87 + d == 58) ≡ false = grind (arith, nat_tests) in ap not other

onto_plain : (k n : ℕ) (acc : List ℕ) → is_plain acc ≡ true
    → is_plain (digits_onto k 10 false n acc) ≡ true
unfolding is_plain
onto_plain zero n acc h = h
onto_plain (suc k) n acc h =
    go (n / 10 == 0) front (onto_plain k (n / 10) (digit_glyph false (n % 10) ∷ acc) front)
  where
    front : is_plain (digit_glyph false (n % 10) ∷ acc) ≡ true
    front = ap₂ ◌&&◌ (glyph_plain (n % 10)) h

    go : (b : Bool) → is_plain (digit_glyph false (n % 10) ∷ acc) ≡ true
        → is_plain (digits_onto k 10 false (n / 10) (digit_glyph false (n % 10) ∷ acc)) ≡ true
        → is_plain (if b then digit_glyph false (n % 10) ∷ acc
        else digits_onto k 10 false (n / 10) (digit_glyph false (n % 10) ∷ acc)) ≡ true
    go true one more = one
    go false one more = more

decimal_plain : (n : ℕ) → is_plain (decimal n) ≡ true
unfolding digits is_plain
decimal_plain n = onto_plain 64 n [] refl

-- ---- the text of a loop's answer
fifth_byte : List ℕ → ℕ
fifth_byte said = get_or said 4 0

-- the number of the loop, and what is said of it
loop_parts : (i j : ℕ) (u v : List ℕ)
    → codes "loop " ++ decimal (i + 1) ++ codes ": " ++ u
    ≡ codes "loop " ++ decimal (j + 1) ++ codes ": " ++ v
    → (decimal (i + 1) ≡ decimal (j + 1)) × (u ≡ v)
loop_parts i j u v same =
    let behind = append_cancel_left (codes "loop ") (decimal (i + 1) ++ codes ": " ++ u)
    (decimal (j + 1) ++ codes ": " ++ v) same in
    let parts = first_colon (decimal (i + 1)) (decimal (j + 1)) (32 ∷ u) (32 ∷ v)
    (decimal_plain (i + 1)) (decimal_plain (j + 1))
    (sym (append_assoc (decimal (i + 1)) (codes ": ") u) ∙ behind
    ∙ append_assoc (decimal (j + 1)) (codes ": ") v) in
    (parts.0, same_tail parts.1)

-- a fault of CHAIN is said of no loop
fault_other : (text : List ℕ) (a : Answer) (j : ℕ) (place : List ℕ) → IsChainFault text a
    → a.text ≡ limit_text_in j place → ⊥
unfolding fifth_byte
fault_other text a j place fault said =
    let x : 58 ≡ 32 = ap fifth_byte (sym (text_of fault.says) ∙ said) in omega (arith, x)

between_other : (x : Answer) (place : List ℕ) → x ≡ between_answer → x.text ≡ limit_text place → ⊥
unfolding first_byte
between_other x place is said =
    let z : 119 ≡ 108 = ap first_byte (sym (text_of is) ∙ said) in omega (arith, z)

limit_of : (names : List (List ℕ)) (budget : ℕ) (x : Answer) (place : List ℕ) (e : LoopError)
    → error_answer names budget e ≡ Some x → x.text ≡ limit_text place
    → (d : AnalyseError) × (e ≡ loop_error.Analysis d) × IsLimit d place
limit_of names budget x place (loop_error.Analysis d) says said =
    (d, refl, limit_alone names budget x place said d says)
limit_of names budget x place loop_error.Between says said =
    absurd (between_other x place (some_answer between_answer x says) said)

pub chain_limit : (budget : ℕ) (m : Journal) (text : List ℕ) (a : Answer) (j : ℕ)
    (place : List ℕ) → IsChainFault text a ⊎ IsUnanalysed text budget m a
    → a.text ≡ limit_text_in j place → IsToldLong text budget m j place
chain_limit budget m text a j place (inl fault) said =
    absurd (fault_other text a j place fault said)
chain_limit budget m text a j place (inr h) said =
    let r = h.refused in
    let t = told_of r.place (error_answer h.chain.first.names budget r.error) a h.says in
    let parts = loop_parts r.place j t.0.text (limit_text place) (sym (text_of t.2) ∙ said) in
    let x = limit_of h.chain.first.names budget t.0 place r.error t.1 parts.1 in
    let same : r.error ≡ loop_error.Analysis (error.Limit x.2.task) =
    x.1 ∙ ap loop_error.Analysis x.2.is in
    let cause : IsRefusedAt h.chain budget m r.place
    (loop_error.Analysis (error.Limit x.2.task)) =
    subst (IsRefusedAt h.chain budget m r.place) same h.ends.refused in
    record {
      chain = h.chain;
      is_chain = h.is_chain;
      loop = r.place;
      within = h.ends.within;
      number = parts.0;
      formed = cause.0;
      task = x.2.task;
      at = x.2.at;
      long = cause.1;
    }

-- what holds of an answer with such a text holds of what was written
pub limit_written_in : (call : Call) (file : List ℕ) (R : List ℕ → Answer → Type 0)
    (T : List ℕ → ℕ → List ℕ → Type 0)
    → ((text : List ℕ) (a : Answer) (j : ℕ) (place : List ℕ) → R text a
    → a.text ≡ limit_text_in j place → T text j place)
    → Wrote call.sink (λ said. IfTold call.files.before file
    (λ text. R text (with_text status.Fault said)))
    → Wrote call.sink (λ said. IfLimitIn said (λ j place.
    IfTold call.files.before file (λ text. T text j place)))
limit_written_in call file R T told w = record {
  text = w.text;
  whole = w.whole;
  is = λ j place same. if_told (call.files.before.told file)
      (λ text. R text (with_text status.Fault w.text)) (λ text. T text j place)
      (λ text r. told text (with_text status.Fault w.text) j place r same) w.is;
}
