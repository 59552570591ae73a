-- The states of a chain, word by word, as the code finds them.
--   has_room                  what is refused in a word can be counted on
--   replay_long               a word that was replayed has one state more than letters
--   last_is                   the last of the states that were found
--   word_found, word_refused  one more word
--   code_as_word, no_code     code, done once
--   words_begin, code_more, code_stops, words_more, words_stop, words_end      the stages, one after another
use Rattle.std.proofs.Common.{◌≡◌, ◌∙◌, sym, ap, ap₂, refl, subst, ℕ, suc, ◌+◌, ◌-◌, ◌<◌, ◌≤◌, List, [], ◌∷◌, ◌++◌, map, drop, length, get_or, arith, All, Option, Some, None, Result, Ok, Err, ◌⊎◌, inl, inr}
use Rattle.std.specs.Prelude.{IfSome, option_map}
use Rattle.std.specs.List.{remove}
use Rattle.std.specs.Global.{Vec}
use Rattle.std.proofs.lemmas.List.{append-nil, map-append, length-map, get_or-map}
use Rattle.std.proofs.lemmas.List.Elements.{All-append, All-tail}
use Rattle.algebra.specs.Fraction.{Fraction}
use Rattle.frac128.specs.declared.fraction.Frac.{Frac}
use Rattle.loops.specs.Program.{Expr, Program, Statement, Equation}
use Rattle.loops.proofs.Runs.{states_of_run}
use Rattle.loop_model.specs.Parts.{statement_of}
use Rattle.loop_model.specs.View.{program_of}
use Rattle.loop_model.specs.declared.statement.Statement as made
use Rattle.loop_model.specs.declared.loop_.Loop.{Loop}
use Rattle.loop_runs.specs.Replay.{RunFault, no_branch, wide, and_then, start_fault, states_from, replay_of}
use Rattle.loop_runs.specs.Seen.{numbers_of, fault_of}
use Rattle.loop_runs.specs.declared.error.RunError.{RunError}
use Rattle.loop_runs.specs.declared.error.RunError.TheVariants as run_error
use Rattle.loop_runs.proofs.Iterations.{replayed_on}
use Rattle.loop_runs.proofs.Runs.{replay_ends, replay_states}
use Rattle.loops.specs.Chain as spec
use Rattle.loops.specs.Chain.{Chain, loop_of, is_code}
use Rattle.loop_runs.specs.Parts.{code_in, stage_of, IsStageOf}
use Rattle.loop_runs.specs.declared.stage.Stage.{Stage}
use Rattle.loop_runs.proofs.ChainParts.{loop_is_further}
use Rattle.loop_runs.specs.ChainReplay.{fault_behind, result_behind, last_of, with_code, with_word, with_words, chain_replay_of}
use Rattle.loop_runs.specs.ChainRunsSeen.{states_of, words_of, CountsTo}
use Rattle.loop_runs.proofs.ChainRuns.{code_word}
use Rattle.loop_runs.proofs.FaultPlaces.{IsAtMost, IsPlaced, states_placed}

-- ---- a word
pub replay_long : {At : Type 0} (program : Program (Expr At)) (s : List Fraction) (w : List ℕ)
    (ss : List (List Fraction)) → Ok ss ≡ replay_of program s w → length ss ≡ suc (length w)
replay_long program s w ss h =
    let (u, e) = replay_ends program s w ss (sym h) in
    ap length (replay_states program s w ss (sym h)) ∙ (states_of_run program w s u [] e).0

nothing_set : {At : Type 0} (es : List (Equation (Expr At))) (s : List Fraction) → length es ≡ 0
    → None ≡ start_fault es s
unfolding start_fault
nothing_set [] s e = refl
nothing_set (x ∷ es) s e = absurd (omega (arith, e))

removed : (ss : List (Vec Frac)) → states_of (remove ss 0) ≡ drop 1 (states_of ss)
removed [] = refl
removed (s ∷ ss) = refl

module _ (lp : Loop) (free : length (program_of lp).init ≡ 0) (w : List ℕ) (ss : List (Vec Frac))
    (n k : ℕ) (last : Vec Frac) (some : 0 < length ss) (at : k ≡ length ss - 1)
    (is : last ≡ get_or ss k last)
    (size : length last.items ≡ length (program_of lp).names) where
  abbrev program : Program (Expr ℕ)
  program = program_of lp

  abbrev from_last : Result (List (List Fraction)) RunFault
  from_last = replay_of program (numbers_of last.items) w

  last_is : last_of (states_of ss) ≡ numbers_of last.items
  last_is =
      ap (λ i. get_or (states_of ss) i [])
      (let e = length-map ss (λ (s : Vec Frac). numbers_of s.items) in
      let q : length (states_of ss) - 1 ≡ k = omega (arith, e, at) in q)
      ∙ get_or-map (λ (s : Vec Frac). numbers_of s.items) ss k last [] (omega (arith, some, at))
      ∙ ap (λ (s : Vec Frac). numbers_of s.items) (sym is)

  follows : from_last ≡ states_from program 0 w (last_of (states_of ss))
  follows =
      replayed_on program (numbers_of last.items) w
      (length-map last.items _ ∙ size) (nothing_set program.init _ free)
      ∙ ap (states_from program 0 w) (sym last_is)

  abbrev joined : Result (List (List Fraction)) RunFault → Result (List (List Fraction)) RunFault
  joined r = and_then (λ ts. Ok (states_of ss ++ drop 1 ts)) (result_behind n k r)

  one_word : joined from_last ≡ with_word program n k w (states_of ss)
  unfolding with_word
  one_word = ap joined follows

  steps_are : with_word program n k w (states_of ss) ≡ with_word program n (length ss - 1) w
      (states_of ss)
  steps_are = ap (λ i. with_word program n i w (states_of ss)) at

  pub word_found : (more rest found : List (Vec Frac)) → Ok (states_of more) ≡ from_last
      → rest ≡ remove more 0 → found ≡ ss ++ rest
      → Ok (states_of found) ≡ with_word program n (length ss - 1) w (states_of ss)
  word_found more rest found h r f =
      ap Ok (ap states_of (f ∙ ap (λ xs. ss ++ xs) r)
      ∙ map-append (λ (s : Vec Frac). numbers_of s.items) ss (remove more 0)
      ∙ ap (λ xs. states_of ss ++ xs) (removed more)) ∙ ap joined h ∙ one_word ∙ steps_are

  pub word_refused : (e e' : RunError)
      → IfSome (option_map Err (fault_of e)) (λ (r : Result (List (List Fraction)) RunFault).
      r ≡ from_last)
      → fault_of e' ≡ option_map (fault_behind n k) (fault_of e)
      → IfSome (option_map Err (fault_of e')) (λ (r : Result (List (List Fraction)) RunFault).
      r ≡ with_word program n (length ss - 1) w (states_of ss))
  word_refused e e' h is = go (fault_of e) (fault_of e') h is
    where
      go : (o o' : Option RunFault)
          → IfSome (option_map Err o) (λ (r : Result (List (List Fraction)) RunFault).
          r ≡ from_last)
          → o' ≡ option_map (fault_behind n k) o
          → IfSome (option_map Err o') (λ (r : Result (List (List Fraction)) RunFault).
          r ≡ with_word program n (length ss - 1) w (states_of ss))
      go None None h e = tt
      go None (Some f') h e = absurd (cc)
      go (Some f) None h e = absurd (cc)
      go (Some f) (Some f') h e =
          let same : f' ≡ fault_behind n k f = cc in
          ap (λ (x : RunFault). Err x) same ∙ ap joined h ∙ one_word ∙ steps_are

  -- a refusal is of one of the word's letters
  pub has_room : (e : RunError) (m : ℕ)
      → IfSome (option_map Err (fault_of e)) (λ (r : Result (List (List Fraction)) RunFault).
      r ≡ from_last)
      → length w ≤ m → CountsTo m e
  has_room e m h l = by e h
    where
      placed : (f : RunFault) → Err f ≡ from_last → IsAtMost (length w) f
      placed f k = subst (λ r. IsPlaced (length w) r) (sym (k ∙ follows))
          (subst (λ i. IsPlaced i (states_from program 0 w (last_of (states_of ss))))
          (let z : 0 + length w ≡ length w = omega arith in z)
          (states_placed program 0 w (last_of (states_of ss))))

      by : (e : RunError)
          → IfSome (option_map Err (fault_of e)) (λ (r : Result (List (List Fraction)) RunFault).
          r ≡ from_last) → CountsTo m e
      by (run_error.Count values variables) h = tt
      by (run_error.Start var) h = tt
      by (run_error.NoBranch index) h = let k : index ≤ length w = placed (no_branch index) h in
          omega (arith, k, l)
      by (run_error.Wide step var) h = let k : step ≤ length w = placed (wide step var) h in
          omega (arith, k, l)
      by run_error.Memory h = tt

-- ---- lists of states and of words
pub all_joined : (P : Vec Frac → Type 0) (ss more rest found : List (Vec Frac)) → All P ss
    → All P more → rest ≡ remove more 0 → found ≡ ss ++ rest → All P found
all_joined P ss [] rest found a b r f =
    subst (All P) (sym (f ∙ ap (λ xs. ss ++ xs) r ∙ append-nil ss)) a
all_joined P ss (x ∷ xs) rest found a b r f =
    subst (All P) (sym (f ∙ ap (λ ys. ss ++ ys) r)) (All-append P ss xs a (All-tail P x xs b))

pub words_begin_with_the_first : (words : List (Vec ℕ)) (w : Vec ℕ) → 0 < length words
    → w ≡ get_or words 0 w
    → words_of words ≡ w.items ∷ words_of (drop 1 words)
words_begin_with_the_first [] w some is = absurd (omega (arith, some))
words_begin_with_the_first (v ∷ words) w some is = ap (λ (x : Vec ℕ). x.items ∷ words_of words)
    (sym is)

-- ---- code
module _ (lp : Loop) (ss : List (List Fraction)) where
  abbrev sets : Program (Expr ℕ)
  sets = program_of lp

  -- a loop of one branch with one letter is its code, done once
  one_branch : (bs : List (List (Statement (Expr ℕ)))) (n k : ℕ) → length bs ≡ 1
      → 0 < length (get_or bs 0 [])
      → with_word (loop_of sets bs) n k (1 ∷ []) ss ≡ with_code sets n k (get_or bs 0 []) ss
  one_branch [] n k e l = absurd (omega (arith, e))
  one_branch ([] ∷ bs) n k e l = absurd (omega (arith, l))
  one_branch ((a ∷ code) ∷ []) n k e l = code_word sets n k a code ss
  one_branch ((a ∷ code) ∷ b ∷ bs) n k e l = absurd (omega (arith, e))

  pub code_as_word : (n k : ℕ) → length sets.branches ≡ 1 → length sets.init ≡ 0
      → 0 < length (code_in lp)
      → with_word sets n k (1 ∷ []) ss ≡ with_code sets n k (code_in lp) ss
  code_as_word n k one free l =
      ap (λ p. with_word p n k (1 ∷ []) ss) (loop_is_further sets lp (refl, refl, free))
      ∙ one_branch sets.branches n k one l

  pub no_code : (n k : ℕ) → length (code_in lp) ≡ 0 → Ok ss ≡ with_code sets n k (code_in lp) ss
  unfolding with_code
  no_code n k e = nothing (code_in lp) e
    where
      nothing : (code : List (Statement (Expr ℕ))) → length code ≡ 0
          → Ok ss ≡ with_code sets n k code ss
      nothing [] e = refl
      nothing (a ∷ code) e = absurd (omega (arith, e))

-- ---- stages, one after another
module _ {At : Type 0} (program : Program (Expr At)) where
  abbrev pub WordsLeft : Result (List (List Fraction)) RunFault → ℕ → ℕ
      → List (spec.Stage (Expr At)) → List (List ℕ) → List (List Fraction) → Type 0
  WordsLeft all n k stages words ss = all ≡ with_words program n k stages words ss

  -- behind the code of the first of them
  abbrev pub BehindCode : Result (List (List Fraction)) RunFault → ℕ → ℕ → spec.Stage (Expr At)
      → List (spec.Stage (Expr At)) → List ℕ → List (List ℕ) → List (List Fraction) → Type 0
  BehindCode all n k g stages w words ss =
      all ≡ and_then (with_words program (n + length w) (k + length w) stages words)
      (with_word (loop_of program g.branches) n k w ss)

  pub code_more : (all : Result (List (List Fraction)) RunFault) (n k i : ℕ)
      (g : spec.Stage (Expr At)) (stages : List (spec.Stage (Expr At))) (w : List ℕ)
      (words : List (List ℕ)) (ss ts : List (List Fraction))
      → WordsLeft all n k (g ∷ stages) (w ∷ words) ss → Ok ts ≡ with_code program n k g.code ss
      → k + is_code g.code ≡ i → BehindCode all n i g stages w words ts
  unfolding with_words
  code_more all n k i g stages w words ss ts left h e =
      left ∙ ap (λ r. and_then
      (with_words program (n + length w) (k + is_code g.code + length w) stages words)
      (and_then (with_word (loop_of program g.branches) n (k + is_code g.code) w) r)) (sym h)
      ∙ ap (λ j. and_then (with_words program (n + length w) (j + length w) stages words)
      (with_word (loop_of program g.branches) n j w ts)) e

  pub code_stops : (all : Result (List (List Fraction)) RunFault) (n k : ℕ)
      (g : spec.Stage (Expr At)) (stages : List (spec.Stage (Expr At))) (w : List ℕ)
      (words : List (List ℕ)) (ss : List (List Fraction)) (f : RunFault)
      → WordsLeft all n k (g ∷ stages) (w ∷ words) ss → Err f ≡ with_code program n k g.code ss
      → Err f ≡ all
  unfolding with_words
  code_stops all n k g stages w words ss f left h =
      sym (left ∙ ap (λ r. and_then
      (with_words program (n + length w) (k + is_code g.code + length w) stages words)
      (and_then (with_word (loop_of program g.branches) n (k + is_code g.code) w) r)) (sym h))

  pub words_more : (all : Result (List (List Fraction)) RunFault) (n k i j : ℕ)
      (g : spec.Stage (Expr At)) (stages : List (spec.Stage (Expr At))) (w : List ℕ)
      (words : List (List ℕ)) (ss ts : List (List Fraction))
      → BehindCode all n k g stages w words ss
      → Ok ts ≡ with_word (loop_of program g.branches) n k w ss
      → n + length w ≡ i → k + length w ≡ j → WordsLeft all i j stages words ts
  words_more all n k i j g stages w words ss ts left h a b =
      left ∙ ap (and_then (with_words program (n + length w) (k + length w) stages words)) (sym h)
      ∙ ap₂ (λ x y. with_words program x y stages words ts) a b

  pub words_stop : (all : Result (List (List Fraction)) RunFault) (n k : ℕ)
      (g : spec.Stage (Expr At)) (stages : List (spec.Stage (Expr At))) (w : List ℕ)
      (words : List (List ℕ)) (ss : List (List Fraction)) (f : RunFault)
      → BehindCode all n k g stages w words ss
      → Err f ≡ with_word (loop_of program g.branches) n k w ss → Err f ≡ all
  words_stop all n k g stages w words ss f left h =
      sym (left ∙ ap (and_then (with_words program (n + length w) (k + length w) stages words))
      (sym h))

  pub words_end : (all : Result (List (List Fraction)) RunFault) (n k : ℕ)
      (stages : List (spec.Stage (Expr At))) (words : List (List ℕ)) (ss : List (List Fraction))
      → WordsLeft all n k stages words ss → (stages ≡ []) ⊎ (words ≡ []) → Ok ss ≡ all
  unfolding with_words
  words_end all n k [] words ss left e = sym left
  words_end all n k (g ∷ stages) [] ss left e = sym left
  words_end all n k (g ∷ stages) (w ∷ words) ss left (inl e) = absurd (cc)
  words_end all n k (g ∷ stages) (w ∷ words) ss left (inr e) = absurd (cc)

-- the word of the first loop, and then the others
module _ {At : Type 0} (c : Chain (Expr At)) (s : List Fraction) (w : List ℕ)
    (words : List (List ℕ)) where
  pub words_begin : (ss : List (List Fraction)) (k : ℕ) → Ok ss ≡ replay_of c.first s w
      → k ≡ length ss - 1
      → WordsLeft c.first (chain_replay_of c s (w ∷ words)) (length w) k c.further words ss
  unfolding chain_replay_of
  words_begin ss k h l =
      ap (and_then (with_words c.first (length w) (length w) c.further words)) (sym h)
      ∙ ap (λ i. with_words c.first (length w) i c.further words ss)
      (let e = replay_long c.first s w ss h in
      let q : length w ≡ k = omega (arith, e, l) in q)

  pub first_refused : (f : RunFault) → Err f ≡ replay_of c.first s w
      → Err f ≡ chain_replay_of c s (w ∷ words)
  unfolding chain_replay_of
  first_refused f h = ap (and_then (with_words c.first (length w) (length w) c.further words)) h

-- the statements of the one branch
pub code_length : (lp : Loop) (bs : List (Vec made.Statement)) (b : Vec made.Statement)
    → map (λ (x : Vec made.Statement). map statement_of x.items) bs ≡ (program_of lp).branches
    → 0 < length bs → b ≡ get_or bs 0 b → length (code_in lp) ≡ length b.items
code_length lp bs b e some is =
    ap (λ xs. length (get_or xs 0 [])) (sym e)
    ∙ ap length (get_or-map (λ (x : Vec made.Statement). map statement_of x.items) bs 0 b [] some)
    ∙ ap (λ (x : Vec made.Statement). length (map statement_of x.items)) (sym is)
    ∙ length-map b.items statement_of

pub no_step : {E : Type 0} (code : List (Statement E)) → length code ≡ 0 → is_code code ≡ 0
no_step [] e = refl
no_step (a ∷ code) e = absurd (omega (arith, e))

pub one_step : {E : Type 0} (code : List (Statement E)) → 0 < length code → is_code code ≡ 1
one_step [] l = absurd (omega (arith, l))
one_step (a ∷ code) l = refl

-- what a loop does besides its branches is the program's
code_of_names : {At : Type 0} (first : Program (Expr At))
    (bs : List (List (Statement (Expr At)))) (n k : ℕ) (code : List (Statement (Expr At)))
    (ss : List (List Fraction))
    → with_code (loop_of first bs) n k code ss ≡ with_code first n k code ss
unfolding with_code
code_of_names first bs n k [] ss = refl
code_of_names first bs n k (a ∷ code) ss = refl

-- ---- as the code goes through a chain
module _ (first : Program (Expr ℕ)) (g : Stage) (is : IsStageOf first g) where
  of_code : (n k : ℕ) (ss : List (List Fraction))
      → with_code (program_of g.code) n k (code_in g.code) ss
      ≡ with_code first n k (code_in g.code) ss
  of_code n k ss =
      ap (λ p. with_code p n k (code_in g.code) ss) (loop_is_further first g.code is.0)
      ∙ code_of_names first (program_of g.code).branches n k (code_in g.code) ss

  of_branches : (n k : ℕ) (w : List ℕ) (ss : List (List Fraction))
      → with_word (program_of g.body) n k w ss
      ≡ with_word (loop_of first (program_of g.body).branches) n k w ss
  of_branches n k w ss = ap (λ p. with_word p n k w ss) (loop_is_further first g.body is.2)

  pub behind_code : (all : Result (List (List Fraction)) RunFault) (n k i : ℕ)
      (stages : List (spec.Stage (Expr ℕ))) (w : List ℕ) (words : List (List ℕ))
      (ss ts : List (List Fraction)) → WordsLeft first all n k (stage_of g ∷ stages) (w ∷ words) ss
      → Ok ts ≡ with_code (program_of g.code) n k (code_in g.code) ss
      → k + is_code (code_in g.code) ≡ i → BehindCode first all n i (stage_of g) stages w words ts
  behind_code all n k i stages w words ss ts left h e =
      code_more first all n k i (stage_of g) stages w words ss ts left (h ∙ of_code n k ss) e

  pub stops_in_code : (all : Result (List (List Fraction)) RunFault) (n k : ℕ)
      (stages : List (spec.Stage (Expr ℕ))) (w : List ℕ) (words : List (List ℕ))
      (ss : List (List Fraction)) (f : RunFault)
      → WordsLeft first all n k (stage_of g ∷ stages) (w ∷ words) ss
      → Err f ≡ with_code (program_of g.code) n k (code_in g.code) ss → Err f ≡ all
  stops_in_code all n k stages w words ss f left h =
      code_stops first all n k (stage_of g) stages w words ss f left (h ∙ of_code n k ss)

  pub behind_word : (all : Result (List (List Fraction)) RunFault) (n k i j : ℕ)
      (stages : List (spec.Stage (Expr ℕ))) (w : List ℕ) (words : List (List ℕ))
      (ss ts : List (List Fraction)) → BehindCode first all n k (stage_of g) stages w words ss
      → Ok ts ≡ with_word (program_of g.body) n k w ss → n + length w ≡ i → k + length w ≡ j
      → WordsLeft first all i j stages words ts
  behind_word all n k i j stages w words ss ts left h a b =
      words_more first all n k i j (stage_of g) stages w words ss ts left
      (h ∙ of_branches n k w ss) a b

  pub stops_in_word : (all : Result (List (List Fraction)) RunFault) (n k : ℕ)
      (stages : List (spec.Stage (Expr ℕ))) (w : List ℕ) (words : List (List ℕ))
      (ss : List (List Fraction)) (f : RunFault)
      → BehindCode first all n k (stage_of g) stages w words ss
      → Err f ≡ with_word (program_of g.body) n k w ss → Err f ≡ all
  stops_in_word all n k stages w words ss f left h =
      words_stop first all n k (stage_of g) stages w words ss f left (h ∙ of_branches n k w ss)

pub left_begins : {At : Type 0} (c : Chain (Expr At)) (s : List Fraction) (w : List ℕ)
    (ws words rest : List (List ℕ)) (stages : List (spec.Stage (Expr At)))
    (ss : List (List Fraction)) (n k : ℕ) → Ok ss ≡ replay_of c.first s w → n ≡ length w
    → k ≡ length ss - 1 → words ≡ w ∷ ws → stages ≡ c.further → rest ≡ ws
    → WordsLeft c.first (chain_replay_of c s words) n k stages rest ss
left_begins c s w ws words rest stages ss n k h m l a b d =
    rw (m, a, b, d) (words_begin c s w ws ss k h l)
