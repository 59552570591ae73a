-- What is read as a sum uses names that may stand there alone, divides by no 0 and is within its limits, and its variables are noted.
--   Fits used e          so it is of the sum e, where the variables used are noted
--   Safe before s        so it is of each sum that waits in the state s; what was noted before is
--   none_safe            of none
--   reading_safe         reading by a grammar that keeps this keeps it; rules_keep: the rules do
--   number_fits          a number is a sum of this kind
--   at_most              a number is at most its limit where that is no fault
--   no_first, no_second  where neither of two faults comes, there is no first one, and no second
use Rattle.std.proofs.Common.{◌≡◌, ◌≢◌, ℕ, suc, ◌+◌, ◌≤◌, List, [], ◌∷◌, refl, ap, sym, subst, ◌∙◌, ap₂, arith, Bool, true, false, pos, nat_le, ◌==◌, if◌then◌else◌, sum_by, Option, Some, None, unwrap_or, Ok, length, All}
use Rattle.std.specs.Option.{option_map_or}
use Rattle.std.proofs.Math.Nat.{max-le}
use Rattle.std.proofs.lemmas.List.Sums.{sum_by-cons}
use Rattle.std.proofs.lemmas.List.Elements.{All-nil, All-cons, All-head, All-tail, All-weaker}
use Rattle.std.proofs.lemmas.Bool.{or_parts, or_from, leb-true}
use Rattle.algebra.proofs.Basics.{not_both}
use Rattle.loops.specs.Program.{Expr, number, variable, neg, add, sub, mul, divide, power}
use Rattle.loops.specs.WellFormed.{Uses}
use Rattle.loops.specs.Limits.{most_bytes, most_operators, most_exponent, operators, highest_exponent}
use Rattle.loop_model.specs.Names.{place_of}
use Rattle.loop_model.specs.Uses.{uses}
use Rattle.grammars.specs.Kinds as kinds
use Rattle.grammars.specs.Reader as answer
use Rattle.grammars.specs.Reader.{ReadResult, parsed}
use Rattle.grammars.proofs.Reading.{read_is_derived}
use Rattle.grammars.proofs.Kept.{Keeps, read_kept}
use Rattle.poly_text.specs.Lexemes as lexemes
use Rattle.poly_text.specs.Lexemes.{Lexeme, Placed}
use Rattle.poly_text.specs.Kinds.{Kind, a_name, a_number, a_large, a_sign, same, kind_of, word_in, number_in}
use Rattle.poly_text.specs.Reasons.{Reason, limit, divisor, unless, or_else}
use Rattle.poly_text.specs.NameFaults.{has, look}
use Rattle.poly_text.specs.Sums.{SumContext, SumValue, SumState, SumRule, Rule, a_sum, a_factor, sum_language, rule_says, word_fault, divisor_fault, place, minus_fault, depth_fault, operator_fault, push, note, one_of, two_of, number_of, operator, joint, factor, product, sum}
use Rattle.poly_text.specs.Told.{told}
use Rattle.poly_text.specs.Telling.{reading}
use Rattle.poly_text.proofs.KindTests.{by_shape}
use Rattle.poly_text.proofs.AllowedNames.{Allowed, look_allows}

-- ---- a fault that isn't there
pub at_most : (n m : ℕ) (why : Reason) → unless (nat_le n m) why ≡ None → n ≤ m
at_most n m why e = leb-true n m (go (nat_le n m) e)
  where
    go : (b : Bool) → unless b why ≡ None → b ≡ true
    go true e = refl
    go false e = absurd (cc)

pub no_first : (a b : Option Reason) → or_else a b ≡ None → a ≡ None
no_first None b e = refl
no_first (Some why) b e = e

pub no_second : (a b : Option Reason) → or_else a b ≡ None → b ≡ None
no_second None b e = e
no_second (Some why) b e = absurd (cc)

low_number : (o : Option ℕ) → option_map_or (λ n. unless (nat_le n most_exponent) limit) o
    (Some limit) ≡ None → unwrap_or o 0 ≤ most_exponent
low_number None e = absurd (cc)
low_number (Some n) e = at_most n most_exponent limit e

abbrev divisor_kinds : List Kind
divisor_kinds = a_number ∷ a_large ∷ a_name ∷ a_sign 45 ∷ a_sign 40 ∷ []

always_at_fault : (o : Option Reason) → or_else o (Some divisor) ≡ None → ⊥
always_at_fault o e = let never = no_second o (Some divisor) e in absurd (cc)

divisible : (c : SumContext) (x : Lexeme) → kinds.has same divisor_kinds (kind_of x) ≡ true
    → divisor_fault c x ≡ None → pos (number_of x) ≢ pos 0
divisible c (lexemes.name w) k e = absurd (always_at_fault (word_fault c w) e)
divisible c (lexemes.number n) k e = λ z. let some = at_most 1 n divisor e in let none : n ≡ 0 =
    cc in omega arith
divisible c (lexemes.sign b) k e = absurd (always_at_fault (if b == 45 then minus_fault c
    else depth_fault c) e)
divisible c (lexemes.item b) k e =
    absurd (not_both (kinds.has same divisor_kinds (kind_of (lexemes.item b))) k
    (by_shape divisor_kinds (lexemes.item b) refl refl))
divisible c x k e = absurd (cc)

both : {A B : Type 0} → A → B → A × B
both a b = (a, b)

module _ (names : List (List ℕ)) (refused : List ℕ) where
  pub record Fits (used : List ℕ) (e : Expr ℕ) : Type 0 where
    pub over : Uses (Allowed names refused) e
    pub low : highest_exponent e ≤ most_exponent
    pub among : (i : ℕ) → has used i ≡ false → uses e i ≡ false

  -- the names and the refused variables ns and rs of a state, with n operators
  pub record Fit (before : List ℕ) (ns : List (List ℕ)) (rs used : List ℕ) (n : ℕ)
      (v : SumValue) : Type 0 where
    pub names_are : ns ≡ names
    pub refused_are : rs ≡ refused
    pub each : All (Fits used) v.values
    pub few : sum_by operators v.values + length v.places ≤ n
    pub limited : n ≤ most_operators
    pub grows : (i : ℕ) → has used i ≡ false → has before i ≡ false

  -- ---- what the parts of a sum do to it
  record IsOne (used : List ℕ) (f : ℕ → Expr ℕ → Expr ℕ) : Type 0 where
    adds : (at : ℕ) (e : Expr ℕ) → operators (f at e) ≡ suc (operators e)
    fits : (at : ℕ) (e : Expr ℕ) → Fits used e → Fits used (f at e)

  record IsTwo (used : List ℕ) (f : ℕ → Expr ℕ → Expr ℕ → Expr ℕ) : Type 0 where
    adds : (at : ℕ) (d e : Expr ℕ) → operators (f at d e) ≡ suc (operators d + operators e)
    fits : (at : ℕ) (d e : Expr ℕ) → Fits used d → Fits used e → Fits used (f at d e)

  module _ (used : List ℕ) where
    pub number_fits : (k : ℕ) → Fits used (number (pos k))
    unfolding highest_exponent uses Uses
    number_fits k = record { over = tt; low = omega arith; among = λ i h. refl }

    neg_one : IsOne used neg
    unfolding operators highest_exponent uses Uses
    neg_one = record {
      adds = λ at e. refl;
      fits = λ at e h. record { over = h.over; low = h.low; among = h.among };
    }

    divide_one : (n : ℕ) → pos n ≢ pos 0 → IsOne used (λ at e. divide at e (pos n))
    unfolding operators highest_exponent uses Uses
    divide_one n some = record {
      adds = λ at e. refl;
      fits = λ at e h.
          record { over = (h.over, some); low = h.low; among = h.among };
    }

    power_one : (n : ℕ) → n ≤ most_exponent → IsOne used (λ at e. power at e n)
    unfolding operators highest_exponent uses Uses
    power_one n l = record {
      adds = λ at e. refl;
      fits = λ at e h. record { over = h.over; low = max-le h.low l; among = h.among };
    }

    mul_two : IsTwo used mul
    unfolding operators highest_exponent uses Uses
    mul_two = record {
      adds = λ at d e. refl;
      fits = λ at d e h k. record {
        over = (h.over, k.over);
        low = max-le h.low k.low;
        among = λ i f. or_from (uses d i) (uses e i) (h.among i f)
            (k.among i f);
      };
    }

    joint_two : (negative : Bool) → IsTwo used (joint negative)
    unfolding operators highest_exponent uses Uses
    joint_two false = record {
      adds = λ at d e. refl;
      fits = λ at d e h k.
          record {
            over = (h.over, k.over);
            low = max-le h.low k.low;
            among = λ i f. or_from (uses d i) (uses e i) (h.among i f) (k.among i f);
          };
    }
    joint_two true = record {
      adds = λ at d e. refl;
      fits = λ at d e h k.
          record {
            over = (h.over, k.over);
            low = max-le h.low k.low;
            among = λ i f. or_from (uses d i) (uses e i) (h.among i f) (k.among i f);
          };
    }

  -- a name that isn't at fault
  named : (c : SumContext) (w : List ℕ) → c.names ≡ names → c.refused ≡ refused
      → word_fault c w ≡ None → Allowed names refused (place c w)
  named c w same free e = subst (λ (ns : List (List ℕ)).
      Allowed names refused (unwrap_or (place_of ns w) 0)) (sym same)
      (look_allows names refused c.refusal w
      (sym (ap (λ (ns : List (List ℕ)). look ns refused c.refusal w) same)
      ∙ sym (ap (λ is. look c.names is c.refusal w) free)
      ∙ looked (nat_le (length w) most_bytes) e))
    where
      looked : (b : Bool) → (if b then look c.names c.refused c.refusal w else Some limit) ≡ None
          → look c.names c.refused c.refusal w ≡ None
      looked true e = e
      looked false e = absurd (cc)

  module _ (before : List ℕ) where
    abbrev pub Safe : SumState → Type 0
    Safe s = Fit before s.context.names s.context.refused s.context.used s.context.operators s.value

    push_safe : (ns : List (List ℕ)) (rs used : List ℕ) (n : ℕ) (v : SumValue) (e : Expr ℕ)
        → operators e ≡ 0 → Fits used e → Fit before ns rs used n v
        → Fit before ns rs used n (push e v)
    push_safe ns rs used n v e zero fits p =
        let few : sum_by operators (e ∷ v.values) + length v.places ≤ n =
        omega (arith, p.few, sum_by-cons operators e v.values) in
        record {
          names_are = p.names_are;
          refused_are = p.refused_are;
          each = All-cons (Fits used) e v.values fits p.each;
          few = few;
          limited = p.limited;
          grows = p.grows;
        }

    number_safe : (k : ℕ) (s : SumState) → Safe s → Fit before s.context.names s.context.refused
        s.context.used s.context.operators (push (number (pos k)) s.value)
    unfolding operators
    number_safe k s p = push_safe s.context.names s.context.refused s.context.used
        s.context.operators s.value (number (pos k)) refl (number_fits s.context.used k) p

    variable_safe : (j : ℕ) (s : SumState) → Allowed names refused j → Safe s
        → Fit before s.context.names s.context.refused (j ∷ s.context.used) s.context.operators
        (push (variable j) s.value)
    unfolding operators highest_exponent uses Uses
    variable_safe j s allowed p =
        let used = s.context.used in
        let earlier : (i : ℕ) → has (j ∷ used) i ≡ false → has used i ≡ false =
        λ i h. (or_parts (j == i) (has used i) h).1 in
        let each = All-weaker (Fits used) (Fits (j ∷ used)) (λ e fits.
        record {
          over = fits.over;
          low = fits.low;
          among = λ i h. fits.among i (earlier i h);
        }) s.value.values p.each in
        push_safe s.context.names s.context.refused (j ∷ used) s.context.operators s.value
        (variable j) refl (record {
          over = allowed;
          low = omega arith;
          among = λ i h. (or_parts (j == i) (has used i) h).0;
        })
        (record {
          names_are = p.names_are;
          refused_are = p.refused_are;
          each = each;
          few = p.few;
          limited = p.limited;
          grows = λ i h. p.grows i (earlier i h);
        })

    operator_safe : (at : ℕ) (s : SumState) → operator_fault s.context ≡ None → Safe s
        → Fit before s.context.names s.context.refused s.context.used (suc s.context.operators)
        (note at s.value)
    operator_safe at s e p =
        let few : sum_by operators s.value.values + suc (length s.value.places)
        ≤ suc s.context.operators = omega (arith, p.few) in
        record {
          names_are = p.names_are;
          refused_are = p.refused_are;
          each = p.each;
          few = few;
          limited = at_most (suc s.context.operators) most_operators limit e;
          grows = p.grows;
        }

    module _ (s : SumState) where
      abbrev IsFit : SumValue → Type 0
      IsFit v = Fit before s.context.names s.context.refused s.context.used s.context.operators v

      one_safe : (f : ℕ → Expr ℕ → Expr ℕ) → IsOne s.context.used f
          → (es : List (Expr ℕ)) (ps : List ℕ) → let v : SumValue = record {
            values = es;
            places = ps;
          } in IsFit v → IsFit (one_of f v es ps)
      one_safe f is [] ps p = p
      one_safe f is (e ∷ es) [] p = p
      one_safe f is (e ∷ es) (at ∷ ps) p =
          let old : sum_by operators (e ∷ es) + suc (length ps) ≤ s.context.operators = p.few in
          let few : sum_by operators (f at e ∷ es) + length ps ≤ s.context.operators =
          omega (
            arith,
            old,
            sum_by-cons operators e es,
            sum_by-cons operators (f at e) es,
            is.adds at e,
          ) in
          let each = All-cons (Fits s.context.used) (f at e) es
          (is.fits at e (All-head (Fits s.context.used) e es p.each))
          (All-tail (Fits s.context.used) e es p.each) in
          record {
            names_are = p.names_are;
            refused_are = p.refused_are;
            each = each;
            few = few;
            limited = p.limited;
            grows = p.grows;
          }

      two_safe : (f : ℕ → Expr ℕ → Expr ℕ → Expr ℕ) → IsTwo s.context.used f
          → (es : List (Expr ℕ)) (ps : List ℕ) → let v : SumValue = record {
            values = es;
            places = ps;
          } in IsFit v → IsFit (two_of f v es ps)
      two_safe f is [] ps p = p
      two_safe f is (e ∷ []) ps p = p
      two_safe f is (e ∷ d ∷ es) [] p = p
      two_safe f is (e ∷ d ∷ es) (at ∷ ps) p =
          let old : sum_by operators (e ∷ d ∷ es) + suc (length ps) ≤ s.context.operators = p.few in
          let few : sum_by operators (f at d e ∷ es) + length ps ≤ s.context.operators =
          omega (
            arith,
            old,
            sum_by-cons operators e (d ∷ es),
            sum_by-cons operators d es,
            sum_by-cons operators (f at d e) es,
            is.adds at d e,
          ) in
          let behind = All-tail (Fits s.context.used) e (d ∷ es) p.each in
          let each = All-cons (Fits s.context.used) (f at d e) es
          (is.fits at d e (All-head (Fits s.context.used) d es behind)
          (All-head (Fits s.context.used) e (d ∷ es) p.each)) (All-tail (Fits s.context.used)
          d es behind) in
          record {
            names_are = p.names_are;
            refused_are = p.refused_are;
            each = each;
            few = few;
            limited = p.limited;
            grows = p.grows;
          }

    -- ---- each token and each change
    abbrev pub Keep : Rule → Type 0
    Keep g = Keeps sum_language Safe g

    operator_keeps : (b : ℕ) → Keep (operator b)
    operator_keeps b = λ s x p k e. operator_safe x.at s e p

    factor_keeps : Keep factor
    factor_keeps =
        both
        (both
        (both (λ s x p k e. number_safe (number_of x.lexeme) s p)
        (both (λ s x p k e. variable_safe (place s.context (word_in x.lexeme)) s
        (named s.context (word_in x.lexeme) p.names_are p.refused_are e) p)
        (both (λ s x p k e. p) (both tt (λ s x p k e. p)))))
        (both
        (both (operator_keeps 94) (λ s x p k e. one_safe s (λ at d. power at d (number_of x.lexeme))
        (power_one s.context.used (number_of x.lexeme) (low_number (number_in x.lexeme) e))
        s.value.values s.value.places p))
        (λ s p. p)))
        (both (λ s x p k e.
        operator_safe x.at s (no_second (depth_fault s.context) (operator_fault s.context)
        e) p) (both tt (λ s p. one_safe s neg (neg_one s.context.used) s.value.values
        s.value.places p)))

    product_keeps : Keep product
    product_keeps =
        both factor_keeps
        (both (both (operator_keeps 42)
        (both tt (λ s p. two_safe s mul (mul_two s.context.used) s.value.values
        s.value.places p)))
        (both (operator_keeps 47) (λ s x p k e.
        one_safe s (λ at d. divide at d (pos (number_of x.lexeme)))
        (divide_one s.context.used (number_of x.lexeme) (divisible s.context x.lexeme k e))
        s.value.values s.value.places p)))

    sum_keeps : Keep sum
    sum_keeps =
        both product_keeps
        (both (both (operator_keeps 43)
        (both product_keeps (λ s p. two_safe s add (joint_two s.context.used false)
        s.value.values s.value.places p)))
        (both (operator_keeps 45)
        (both product_keeps (λ s p. two_safe s sub (joint_two s.context.used true)
        s.value.values s.value.places p))))

    pub rules_keep : (n : SumRule) (c : SumContext) → Keep (rule_says n c)
    rules_keep a_sum c = sum_keeps
    rules_keep a_factor c = factor_keeps

    -- ---- what is read
    told_reads : (a : ReadResult Lexeme SumContext SumValue Reason) (t : SumState)
        (rest : List Placed)
        → Ok (t, rest) ≡ told a → a ≡ answer.reads t rest
    told_reads (answer.reads u us) t rest e = let same : ◌≡◌ {A = SumState × List Placed} (t, rest)
        (u, us) = cc in ap₂ answer.reads (sym (ap (λ p. p.0) same)) (sym (ap (λ p. p.1) same))
    told_reads (answer.refused x why) t rest e = absurd (cc)
    told_reads answer.unended t rest e = absurd (cc)

    pub reading_safe : (g : Rule) → Keep g → (s t : SumState) (ts rest : List Placed)
        → Ok (t, rest) ≡ reading sum_language g s ts → Safe s → Safe t
    unfolding reading
    reading_safe g keeps s t ts rest e safe =
        let p = read_is_derived sum_language ts (g ∷ []) s t rest
        (told_reads (parsed sum_language g s ts) t rest e) in
        read_kept sum_language Safe rules_keep (g ∷ []) s t p.front p.derivation (keeps, tt) safe

pub none_safe : (c : SumContext) (v : SumValue) → v ≡ record { values = []; places = [] }
    → c.operators ≤ most_operators
    → Safe c.names c.refused c.used (record { context = c; value = v })
none_safe c v e l =
    subst (λ v. Safe c.names c.refused c.used (record { context = c; value = v })) (sym e)
    (record {
      names_are = refl;
      refused_are = refl;
      each = All-nil (Fits c.names c.refused c.used);
      few = omega arith;
      limited = l;
      grows = λ i h. h;
    })
