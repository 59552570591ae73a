-- Replays of chains are runs of them.
--   chain_replay_start, chain_replay_ends, chain_replay_states      what is replayed is a run, through its states
--   chain_count_refused, chain_start_refused, chain_branch_refused  what is refused for its count, its start or a letter is none
--   chain_run_replayed        a run is replayed, or a number doesn't fit
--   one_loop                  a chain of one loop is replayed as the loop is
use Rattle.std.proofs.Common.{◌≡◌, ◌≢◌, ◌∙◌, sym, ap, refl, subst, ℕ, zero, suc, ◌+◌, ◌-◌, ◌<◌, List, [], ◌∷◌, ◌++◌, drop, length, get_or, arith, Option, Some, None, Result, Ok, Err, ◌⊎◌, inl, inr}
use Rattle.std.specs.Prelude.{slice_get, option_and_then}
use Rattle.std.specs.Option.{option_map_or}
use Rattle.std.proofs.lemmas.List.{append-nil, append_assoc, get_or-append-add, length-append}
use Rattle.std.proofs.lemmas.List.Elements.{All-nil}
use Rattle.algebra.specs.Fraction.{Fraction}
use Rattle.loops.specs.Program.{Expr, Program, Statement}
use Rattle.loops.specs.Run.{IsStart, branch_at, effect, run_end, states}
use Rattle.loops.proofs.Maps.{effect_keeps_state}
use Rattle.loops.proofs.Runs.{run_keeps, states_of_run}
use Rattle.loops.specs.Chain.{Stage, Chain, stages_of, loop_of, state_behind, chain_end, stage_states, further_states, chain_states, is_code}
use Rattle.loops.proofs.ChainRuns.{same_end, behind_state}
use Rattle.loop_runs.specs.Replay.{RunFault, count, start, no_branch, wide, and_then, start_fault, iteration_end, states_from, replay_of}
use Rattle.loop_runs.proofs.Iterations.{replayed_on}
use Rattle.loop_runs.proofs.Runs.{replay_start, replay_ends, replay_states, count_refused, start_refused, branch_refused}
use Rattle.loop_runs.specs.ChainReplay.{result_behind, last_of, with_code, with_word, with_words, chain_replay_of}

-- ---- states behind others
-- ss ends with t, and ts leads from t to u by n letters: all together end with u
last_joined : (ss ts : List (List Fraction)) (n : ℕ) (t u : List Fraction) → 0 < length ss
    → last_of ss ≡ t → length ts ≡ suc n → get_or ts 0 [] ≡ t → get_or ts n [] ≡ u
    → last_of (ss ++ drop 1 ts) ≡ u
last_joined ss [] n t u some last long first end = absurd (omega (arith, long))
last_joined ss (x ∷ []) zero t u some last long first end =
    ap last_of (append-nil ss) ∙ last ∙ sym first ∙ end
last_joined ss (x ∷ y ∷ ys) zero t u some last long first end = absurd (omega (arith, long))
last_joined ss (x ∷ ys) (suc n) t u some last long first end =
    ap (λ i. get_or (ss ++ ys) i [])
    (let e = length-append ss ys in
    let q : length (ss ++ ys) - 1 ≡ length ss + n = omega (arith, e, some, long) in q)
    ∙ get_or-append-add ss ys n [] ∙ end

longer : (ss ts : List (List Fraction)) → 0 < length ss → 0 < length (ss ++ ts)
longer ss ts some = let e = length-append ss ts in omega (arith, e, some)

module _ {At : Type 0} (program : Program (Expr At)) where
  -- the first state of a word is the one that it is from
  states_first : (w : List ℕ) (t : List Fraction)
      → states program w t ≡ t ∷ drop 1 (states program w t)
  unfolding states
  states_first [] t = refl
  states_first (b ∷ w) t = refl

  -- what a loop sets has no part in the states of a word
  same_states : (w : List ℕ) (s : List Fraction)
      → states (loop_of program program.branches) w s ≡ states program w s
  unfolding states branch_at
  same_states [] s = refl
  same_states (zero ∷ w) s = refl
  same_states (suc b ∷ w) s = by (slice_get program.branches b) (λ t. same_states w t)
    where
      by : (o : Option (List (Statement (Expr At))))
          → ((t : List Fraction) → states (loop_of program program.branches) w t
          ≡ states program w t)
          → ◌≡◌ {A = List (List Fraction)} (s ∷ option_map_or (λ branch.
          states (loop_of program program.branches) w (effect program branch s)) o [])
          (s ∷ option_map_or (λ branch. states program w (effect program branch s)) o [])
      by None later = refl
      by (Some branch) later = ap (λ ts. s ∷ ts) (later (effect program branch s))

-- ---- one word of a loop that sets nothing
module _ {At : Type 0} (program : Program (Expr At)) (bs : List (List (Statement (Expr At)))) where
  abbrev lp : Program (Expr At)
  lp = loop_of program bs

  abbrev IsOf : List Fraction → Type 0
  IsOf t = length t ≡ length program.names

  -- behind the states ss, of which t is the last
  data WordFrom (w : List ℕ) (t : List Fraction) (ss : List (List Fraction))
      (r : Result (List (List Fraction)) RunFault) : Type 0 where
    ran : (u : List Fraction) → run_end lp w t ≡ Some u
        → r ≡ Ok (ss ++ drop 1 (states lp w t)) → last_of (ss ++ drop 1 (states lp w t)) ≡ u
        → IsOf u → WordFrom w t ss r
    stopped : (j : ℕ) → run_end lp w t ≡ None → r ≡ Err (no_branch j) → WordFrom w t ss r
    passed : (k v : ℕ) → r ≡ Err (wide k v) → WordFrom w t ss r

  replayed : (w : List ℕ) (t : List Fraction) → IsOf t → replay_of lp t w ≡ states_from lp 0 w t
  unfolding start_fault
  replayed w t is = replayed_on lp t w is refl

  word_from : (n k : ℕ) (w : List ℕ) (t : List Fraction) (ss : List (List Fraction)) → IsOf t
      → 0 < length ss → last_of ss ≡ t → WordFrom w t ss (with_word lp n k w ss)
  unfolding with_word
  word_from n k w t ss is some last =
      subst (WordFrom w t ss)
      (ap (λ r. joined (result_behind n k r)) (replayed w t is)
      ∙ ap (λ s. joined (result_behind n k (states_from lp 0 w s))) (sym last))
      (go (replay_of lp t w) refl)
    where
      joined : Result (List (List Fraction)) RunFault → Result (List (List Fraction)) RunFault
      joined r = and_then (λ ts. Ok (ss ++ drop 1 ts)) r

      go : (r : Result (List (List Fraction)) RunFault) → replay_of lp t w ≡ r
          → WordFrom w t ss (joined (result_behind n k r))
      go (Ok ts) e =
          let (u, end) = replay_ends lp t w ts e in
          let shape = states_of_run lp w t u [] end in
          ran u end (ap (λ xs. Ok (ss ++ drop 1 xs)) (replay_states lp t w ts e))
          (last_joined ss (states lp w t) (length w) t u some last shape.0
          (ap (λ xs. get_or xs 0 []) (states_first lp w t)) shape.1)
          (run_keeps lp IsOf (λ s b branch i p. effect_keeps_state lp branch s p) w t u is end)
      go (Err (count g v)) e =
          let c = count_refused lp t w g v e in absurd (c.2 (c.0 ∙ is ∙ sym c.1))
      go (Err (start v)) e =
          absurd (start_refused lp t w v e (record { state = is; holds = All-nil _ }))
      go (Err (no_branch j)) e = stopped (n + j) (branch_refused lp t w j e) refl
      go (Err (wide i v)) e = passed (k + i) v refl

-- ---- code, done once
-- the state behind it, if it has statements
abbrev code_state : {At : Type 0} → Program (Expr At) → List (Statement (Expr At))
    → List Fraction → List (List Fraction)
code_state program [] t = []
code_state program (a ∷ code) t = effect program (a ∷ code) t ∷ []

module _ {At : Type 0} (program : Program (Expr At)) where
  -- it is the word of one letter of a loop that has no other branch
  pub code_word : (n k : ℕ) (a : Statement (Expr At)) (code : List (Statement (Expr At)))
      (ss : List (List Fraction))
      → with_word (loop_of program ((a ∷ code) ∷ [])) n k (1 ∷ []) ss
      ≡ with_code program n k (a ∷ code) ss
  unfolding with_word with_code states_from branch_at
  code_word n k a code ss =
      go (iteration_end (length program.names) (length program.locals) 1 (a ∷ code) (last_of ss))
    where
      go : (r : Result (List Fraction) RunFault)
          → and_then (λ ts. Ok (ss ++ drop 1 ts)) (result_behind n k
          (and_then (λ t. and_then (λ ts. Ok (last_of ss ∷ ts)) (Ok (t ∷ []))) r))
          ≡ and_then (λ t. Ok (ss ++ t ∷ [])) (result_behind n k r)
      go (Ok t) = refl
      go (Err f) = refl

  -- behind the states ss, of which t is the last
  data CodeFrom (code : List (Statement (Expr At))) (t : List Fraction)
      (ss : List (List Fraction)) (r : Result (List (List Fraction)) RunFault) : Type 0 where
    done : r ≡ Ok (ss ++ code_state program code t)
        → last_of (ss ++ code_state program code t) ≡ state_behind program code t
        → CodeFrom code t ss r
    passed_code : (k v : ℕ) → r ≡ Err (wide k v) → CodeFrom code t ss r

  by_word : (a : Statement (Expr At)) (code : List (Statement (Expr At))) (t : List Fraction)
      (ss : List (List Fraction)) (r : Result (List (List Fraction)) RunFault)
      → WordFrom program ((a ∷ code) ∷ []) (1 ∷ []) t ss r → CodeFrom (a ∷ code) t ss r
  unfolding run_end states branch_at state_behind
  by_word a code t ss r (ran u e q end size) =
      let same : effect program (a ∷ code) t ≡ u = cc in done q (end ∙ sym same)
  by_word a code t ss r (stopped j e q) = absurd (cc)
  by_word a code t ss r (passed i v q) = passed_code i v q

  code_from : (n k : ℕ) (code : List (Statement (Expr At))) (t : List Fraction)
      (ss : List (List Fraction)) → length t ≡ length program.names → 0 < length ss
      → last_of ss ≡ t → CodeFrom code t ss (with_code program n k code ss)
  unfolding with_code state_behind
  code_from n k [] t ss is some last =
      done (ap Ok (sym (append-nil ss))) (ap last_of (append-nil ss) ∙ last)
  code_from n k (a ∷ code) t ss is some last =
      subst (CodeFrom (a ∷ code) t ss) (code_word n k a code ss)
      (by_word a code t ss (with_word (loop_of program ((a ∷ code) ∷ [])) n k (1 ∷ []) ss)
      (word_from program ((a ∷ code) ∷ []) n k (1 ∷ []) t ss is some last))

-- ---- a word of each loop
module _ {At : Type 0} (program : Program (Expr At)) where
  abbrev from : Stage (Expr At) → List ℕ → List Fraction → Option (List Fraction)
  from g w t = run_end (loop_of program g.branches) w (state_behind program g.code t)

  -- what a stage comes through: the state behind its code, and those behind the letters
  stage_states_are : (g : Stage (Expr At)) (w : List ℕ) (t : List Fraction)
      → code_state program g.code t
      ++ drop 1 (states (loop_of program g.branches) w (state_behind program g.code t))
      ≡ stage_states program g.code g.branches w t
  unfolding stage_states state_behind
  stage_states_are g w t = go g.code
    where
      go : (code : List (Statement (Expr At))) → code_state program code t
          ++ drop 1 (states (loop_of program g.branches) w (state_behind program code t))
          ≡ stage_states program code g.branches w t
      go [] = refl
      go (a ∷ code) = sym (states_first (loop_of program g.branches) w
          (state_behind program (a ∷ code) t))

  -- from the last state t of the states ss: a run through its states, or a letter that has no
  -- branch, or a number that doesn't fit
  data WordsFrom (stages : List (Stage (Expr At))) (words : List (List ℕ)) (t : List Fraction)
      (ss : List (List Fraction)) (r : Result (List (List Fraction)) RunFault) : Type 0 where
    ran_all : (end : List Fraction) → chain_end program stages words t ≡ Some end
        → r ≡ Ok (ss ++ further_states program stages words t) → WordsFrom stages words t ss r
    stopped_in : (j : ℕ) → chain_end program stages words t ≡ None → r ≡ Err (no_branch j)
        → WordsFrom stages words t ss r
    passed_in : (k v : ℕ) → r ≡ Err (wide k v) → WordsFrom stages words t ss r

  words_from : (n k : ℕ) (stages : List (Stage (Expr At))) (words : List (List ℕ))
      (t : List Fraction) (ss : List (List Fraction)) → length words ≡ length stages
      → length t ≡ length program.names → 0 < length ss → last_of ss ≡ t
      → WordsFrom stages words t ss (with_words program n k stages words ss)
  unfolding with_words chain_end further_states
  words_from n k [] [] t ss many is some last = ran_all t refl (ap Ok (sym (append-nil ss)))
  words_from n k [] (w ∷ words) t ss many is some last = absurd (omega (arith, many))
  words_from n k (g ∷ stages) [] t ss many is some last = absurd (omega (arith, many))
  words_from n k (g ∷ stages) (w ∷ words) t ss many is some last =
      by_code (with_code program n k g.code ss) (code_from program n k g.code t ss is some last)
      (λ u found size more end. words_from (n + length w) (k + is_code g.code + length w) stages
      words u found (let q : suc (length words) ≡ suc (length stages) = many in omega (arith, q))
      size more end)
    where
      lp : Program (Expr At)
      lp = loop_of program g.branches

      rest : Result (List (List Fraction)) RunFault → Result (List (List Fraction)) RunFault
      rest r = and_then
          (with_words program (n + length w) (k + is_code g.code + length w) stages words) r

      along : Result (List (List Fraction)) RunFault → Result (List (List Fraction)) RunFault
      along r = and_then (with_word lp n (k + is_code g.code) w) r

      end_by : Option (List Fraction) → Option (List Fraction)
      end_by o = option_and_then (chain_end program stages words) o

      states_by : Option (List Fraction) → List (List Fraction)
      states_by o = stage_states program g.code g.branches w t
          ++ option_map_or (further_states program stages words) o []

      -- the state behind the code, and the states up to it
      there : List Fraction
      there = state_behind program g.code t

      coded : List (List Fraction)
      coded = ss ++ code_state program g.code t

      found : List (List Fraction)
      found = coded ++ drop 1 (states lp w there)

      -- the states of this stage, and then those of the others
      all_states : (u : List Fraction) → run_end lp w there ≡ Some u
          → found ++ further_states program stages words u ≡ ss ++ states_by (run_end lp w there)
      all_states u e =
          ap (λ xs. xs ++ further_states program stages words u)
          (append_assoc ss (code_state program g.code t) (drop 1 (states lp w there))
          ∙ ap (λ xs. ss ++ xs) (stage_states_are g w t))
          ∙ append_assoc ss (stage_states program g.code g.branches w t)
          (further_states program stages words u)
          ∙ ap (λ o. ss ++ states_by o) (sym e)

      later : (r : Result (List (List Fraction)) RunFault) (u : List Fraction)
          → run_end lp w there ≡ Some u → r ≡ rest (Ok found)
          → WordsFrom stages words u found (rest (Ok found))
          → WordsFrom (g ∷ stages) (w ∷ words) t ss r
      later r u e q (ran_all end f i) =
          ran_all end (ap end_by e ∙ f) (q ∙ i ∙ ap Ok (all_states u e))
      later r u e q (stopped_in j f i) = stopped_in j (ap end_by e ∙ f) (q ∙ i)
      later r u e q (passed_in i v f) = passed_in i v (q ∙ f)

      by : (r : Result (List (List Fraction)) RunFault)
          → WordFrom program g.branches w there coded r
          → ((u : List Fraction) → length u ≡ length program.names → 0 < length found
          → last_of found ≡ u → WordsFrom stages words u found (rest (Ok found)))
          → WordsFrom (g ∷ stages) (w ∷ words) t ss (rest r)
      by r (ran u e i end size) others =
          later (rest r) u e (ap rest i)
          (others u size (longer coded (drop 1 (states lp w there))
          (longer ss (code_state program g.code t) some)) end)
      by r (stopped j e i) others = stopped_in j (ap end_by e) (ap rest i)
      by r (passed i v f) others = passed_in i v (ap rest f)

      same : (r : Result (List (List Fraction)) RunFault) → r ≡ Ok coded
          → WordsFrom (g ∷ stages) (w ∷ words) t ss (rest (along (Ok coded)))
          → WordsFrom (g ∷ stages) (w ∷ words) t ss (rest (along r))
      same r e h = subst (λ x. WordsFrom (g ∷ stages) (w ∷ words) t ss (rest (along x))) (sym e) h

      by_code : (r : Result (List (List Fraction)) RunFault) → CodeFrom program g.code t ss r
          → ((u : List Fraction) (found : List (List Fraction)) → length u ≡ length program.names
          → 0 < length found → last_of found ≡ u → WordsFrom stages words u found
          (rest (Ok found)))
          → WordsFrom (g ∷ stages) (w ∷ words) t ss (rest (along r))
      by_code r (done e end) others =
          same r e (by (along (Ok coded))
          (word_from program g.branches n (k + is_code g.code) w there coded
          (behind_state program g.code t is) (longer ss (code_state program g.code t) some) end)
          (λ u. others u found))
      by_code r (passed_code i v e) others = passed_in i v (ap (λ x. rest (along x)) e)

-- ---- a replay
module _ {At : Type 0} (c : Chain (Expr At)) (s : List Fraction) where
  data Replay (words : List (List ℕ)) : Type 0 where
    miscounted : (g v : ℕ) → (g ≡ length s) × (v ≡ length c.first.names) × (g ≢ v)
        → chain_replay_of c s words ≡ Err (count g v) → Replay words
    no_start : (v : ℕ) → (IsStart c.first s → ⊥) → chain_replay_of c s words ≡ Err (start v)
        → Replay words
    no_run : (j : ℕ) → chain_end c.first (stages_of c) words s ≡ None
        → chain_replay_of c s words ≡ Err (no_branch j) → Replay words
    too_wide : (k v : ℕ) → chain_replay_of c s words ≡ Err (wide k v) → Replay words
    runs : (end : List Fraction) → IsStart c.first s
        → chain_end c.first (stages_of c) words s ≡ Some end
        → chain_replay_of c s words ≡ Ok (chain_states c.first (stages_of c) words s) → Replay words

  replay_cases : (words : List (List ℕ)) → length words ≡ length (stages_of c) → Replay words
  unfolding chain_replay_of chain_end further_states stage_states state_behind
  replay_cases [] many = absurd (let q : 0 ≡ suc (length c.further) = many in omega (arith, q))
  replay_cases (w ∷ words) many = go (replay_of c.first s w) refl
    where
      lp : Program (Expr At)
      lp = loop_of c.first c.first.branches

      rest : Result (List (List Fraction)) RunFault → Result (List (List Fraction)) RunFault
      rest r = and_then (with_words c.first (length w) (length w) c.further words) r

      end_by : Option (List Fraction) → Option (List Fraction)
      end_by o = option_and_then (chain_end c.first c.further words) o

      states_by : Option (List Fraction) → List (List Fraction)
      states_by o = s ∷ (drop 1 (states lp w s)
          ++ option_map_or (further_states c.first c.further words) o [])

      -- a run of the first loop's word, and then the others
      started : (ss : List (List Fraction)) (u : List Fraction) → replay_of c.first s w ≡ Ok ss
          → IsStart c.first s → run_end c.first w s ≡ Some u → ss ≡ states c.first w s
          → WordsFrom c.first c.further words u ss (rest (Ok ss))
          → Replay (w ∷ words)
      started ss u k is e same (ran_all end f q) =
          let end_first = same_end c.first w s ∙ e in
          runs end is (ap end_by end_first ∙ f)
          (ap rest k ∙ q ∙ ap Ok (ap (λ xs. xs ++ further_states c.first c.further words u)
          (same ∙ sym (same_states c.first w s) ∙ states_first lp w s)
          ∙ ap states_by (sym end_first)))
      started ss u k is e same (stopped_in j f q) =
          no_run j (ap end_by (same_end c.first w s ∙ e) ∙ f) (ap rest k ∙ q)
      started ss u k is e same (passed_in i v q) = too_wide i v (ap rest k ∙ q)

      go : (r : Result (List (List Fraction)) RunFault) → replay_of c.first s w ≡ r
          → Replay (w ∷ words)
      go (Ok ss) k =
          let is = replay_start c.first s w ss k in
          let (u, e) = replay_ends c.first s w ss k in
          let same = replay_states c.first s w ss k in
          let shape = states_of_run c.first w s u [] e in
          let long : length ss ≡ suc (length w) = ap length same ∙ shape.0 in
          let last : last_of ss ≡ u = ap (λ i. get_or ss i [])
          (let q : length ss - 1 ≡ length w = omega (arith, long) in q)
          ∙ ap (λ xs. get_or xs (length w) []) same ∙ shape.1 in
          started ss u k is e same
          (words_from c.first (length w) (length w) c.further words u ss
          (let q : suc (length words) ≡ suc (length c.further) = many in omega (arith, q))
          (run_keeps c.first (λ t. length t ≡ length c.first.names)
          (λ t b branch i p. effect_keeps_state c.first branch t p) w s u is.state e)
          (omega (arith, long)) last)
      go (Err (count g v)) k = miscounted g v (count_refused c.first s w g v k) (ap rest k)
      go (Err (start v)) k = no_start v (start_refused c.first s w v k) (ap rest k)
      go (Err (no_branch j)) k =
          no_run j (ap end_by (same_end c.first w s ∙ branch_refused c.first s w j k)) (ap rest k)
      go (Err (wide i v)) k = too_wide i v (ap rest k)

  module _ (words : List (List ℕ)) (many : length words ≡ length (stages_of c)) where
    module _ (found : List (List Fraction)) (h : chain_replay_of c s words ≡ Ok found) where
      chain_run : IsStart c.first s
          × ((end : List Fraction) × (chain_end c.first (stages_of c) words s ≡ Some end))
          × (found ≡ chain_states c.first (stages_of c) words s)
      chain_run = elim (replay_cases words many) [
        | miscounted g v n k ↦ absurd (let no = sym k ∙ h in cc)
        | no_start v n k ↦ absurd (let no = sym k ∙ h in cc)
        | no_run j e k ↦ absurd (let no = sym k ∙ h in cc)
        | too_wide i v k ↦ absurd (let no = sym k ∙ h in cc)
        | runs end is e k ↦ (is, (end, e), cc)
      ]

      pub chain_replay_start : IsStart c.first s
      chain_replay_start = chain_run.0

      pub chain_replay_ends : (end : List Fraction)
          × (chain_end c.first (stages_of c) words s ≡ Some end)
      chain_replay_ends = chain_run.1

      pub chain_replay_states : found ≡ chain_states c.first (stages_of c) words s
      chain_replay_states = chain_run.2

    pub chain_count_refused : (g v : ℕ) → chain_replay_of c s words ≡ Err (count g v)
        → (g ≡ length s) × (v ≡ length c.first.names) × (g ≢ v)
    chain_count_refused g v h = elim (replay_cases words many) [
      | miscounted g' v' n k ↦ let same = sym h ∙ k in
          let gs : g ≡ g' = cc in let vs : v ≡ v' = cc in
          (gs ∙ n.0, vs ∙ n.1, λ e. n.2 (sym gs ∙ e ∙ vs))
      | no_start w n k ↦ absurd (let no = sym k ∙ h in cc)
      | no_run j e k ↦ absurd (let no = sym k ∙ h in cc)
      | too_wide i w k ↦ absurd (let no = sym k ∙ h in cc)
      | runs end is e k ↦ absurd (let no = sym k ∙ h in cc)
    ]

    pub chain_start_refused : (v : ℕ) → chain_replay_of c s words ≡ Err (start v)
        → IsStart c.first s → ⊥
    chain_start_refused v h is = elim (replay_cases words many) [
      | miscounted g w n k ↦ let no = sym k ∙ h in cc
      | no_start w n k ↦ n is
      | no_run j e k ↦ let no = sym k ∙ h in cc
      | too_wide i w k ↦ let no = sym k ∙ h in cc
      | runs end is e k ↦ let no = sym k ∙ h in cc
    ]

    pub chain_branch_refused : (j : ℕ) → chain_replay_of c s words ≡ Err (no_branch j)
        → chain_end c.first (stages_of c) words s ≡ None
    chain_branch_refused j h = elim (replay_cases words many) [
      | miscounted g w n k ↦ absurd (let no = sym k ∙ h in cc)
      | no_start w n k ↦ absurd (let no = sym k ∙ h in cc)
      | no_run i e k ↦ e
      | too_wide i w k ↦ absurd (let no = sym k ∙ h in cc)
      | runs end is e k ↦ absurd (let no = sym k ∙ h in cc)
    ]

  -- as many words as loops: where they lead to an end
  many_words : (program : Program (Expr At)) (stages : List (Stage (Expr At)))
      (words : List (List ℕ)) (t end : List Fraction) → chain_end program stages words t ≡ Some end
      → length words ≡ length stages
  unfolding chain_end
  many_words program [] [] t end h = refl
  many_words program [] (w ∷ words) t end h = absurd (cc)
  many_words program (g ∷ stages) [] t end h = absurd (cc)
  many_words program (g ∷ stages) (w ∷ words) t end h =
      go (from program g w t) h (λ u. many_words program stages words u end)
    where
      go : (o : Option (List Fraction))
          → option_and_then (chain_end program stages words) o ≡ Some end
          → ((u : List Fraction) → chain_end program stages words u ≡ Some end
          → length words ≡ length stages) → suc (length words) ≡ suc (length stages)
      go None h later = absurd (cc)
      go (Some u) h later = ap suc (later u h)

  pub chain_run_replayed : (words : List (List ℕ)) (end : List Fraction) → IsStart c.first s
      → chain_end c.first (stages_of c) words s ≡ Some end
      → (chain_replay_of c s words ≡ Ok (chain_states c.first (stages_of c) words s))
      ⊎ ((k : ℕ) × (v : ℕ) × (chain_replay_of c s words ≡ Err (wide k v)))
  chain_run_replayed words end is e =
      elim (replay_cases words (many_words c.first (stages_of c) words s end e)) [
        | miscounted g v n k ↦ absurd (n.2 (n.0 ∙ is.state ∙ sym n.1))
        | no_start v n k ↦ absurd (n is)
        | no_run j f k ↦ absurd (let no = sym f ∙ e in cc)
        | too_wide i v k ↦ inr (i, v, k)
        | runs end is e k ↦ inl k
      ]

pub one_loop : {At : Type 0} (program : Program (Expr At)) (s : List Fraction) (w : List ℕ)
    → chain_replay_of (record { first = program; further = [] }) s (w ∷ []) ≡ replay_of program s w
unfolding chain_replay_of with_words
one_loop {At} program s w = go (replay_of program s w)
  where
    go : (r : Result (List (List Fraction)) RunFault)
        → and_then (with_words program (length w) (length w) [] []) r ≡ r
    go (Ok ss) = refl
    go (Err f) = refl
