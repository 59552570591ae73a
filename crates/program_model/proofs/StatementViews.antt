-- Statements of the code, one by one, and as blocks.
--   block_push           a block of statements with one more
--   guarded_each         what holds of a block holds of each of its statements
--   stops_later          a stop in the first statements of a block
--   depth_each           they stand no deeper
use Rattle.std.proofs.Common.{◌≡◌, ◌<◌, ◌≤◌, ℕ, ◌+◌, List, [], ◌∷◌, ◌++◌, map, take, drop, length, get_or, refl, sym, ap, subst, ◌∙◌, All, arith}
use Rattle.std.proofs.lemmas.List.Elements.{All-nil, All-cons}
use Rattle.std.proofs.Math.Nat.{le-max_left, le-max_right}
use Rattle.loop_model.specs.declared.map_error.MapError.{MapError}
use Rattle.program_model.specs.Program.{Block, empty, behind}
use Rattle.program_model.specs.WellFormed.{IsGuarded, IsBlock}
use Rattle.program_model.specs.StatementView.{Syntax, block_behind, statement_of, block_of}
use Rattle.program_model.specs.Limits.{depth, depth_inside}
use Rattle.program_model.specs.Events.{Stops}
use Rattle.program_model.specs.PathEvents.{E}
use Rattle.program_model.specs.Forming.{block_events}
use Rattle.program_model.specs.declared.statement.Statement as code
use Rattle.program_model.proofs.Cuts.{cut_more, cut_all, item_of}
use Rattle.program_model.proofs.EventLaws.{stops_front}
use Rattle.program_model.proofs.Moving.{O}

block_push : (b : Block E) (ss : List Syntax) (s : Syntax)
    → block_behind b (ss ++ s ∷ []) ≡ behind (block_behind b ss) s
unfolding block_behind
block_push b [] s = refl
block_push b (t ∷ ss) s = block_push (behind b t) ss s

block_parts : (b : Block E) (ss ts : List Syntax)
    → block_behind b (ss ++ ts) ≡ block_behind (block_behind b ss) ts
unfolding block_behind
block_parts b [] ts = refl
block_parts b (s ∷ ss) ts = block_parts (behind b s) ss ts

pub block_more : (ss : List code.Statement) (i : ℕ) (s : code.Statement) → i < length ss
    → s ≡ get_or ss i s
    → block_of (take (i + 1) ss) ≡ behind (block_of (take i ss)) (statement_of s)
block_more ss i s l is =
    ap (block_behind empty) (cut_more statement_of ss i s l is)
    ∙ block_push empty (map statement_of (take i ss)) (statement_of s)

pub block_none : block_of [] ≡ empty
unfolding block_behind
block_none = refl

guarded_behind : (n : ℕ) (b : Block E) (ss : List Syntax) → IsBlock n (block_behind b ss)
    → IsBlock n b × All (IsGuarded n) ss
unfolding block_behind IsBlock
guarded_behind n b [] h = (h, All-nil (IsGuarded n))
guarded_behind n b (s ∷ ss) h =
    let r = guarded_behind n (behind b s) ss h in
    (r.0.0, All-cons (IsGuarded n) s ss r.0.1 r.1)

pub guarded_at : (n : ℕ) (ss : List code.Statement) (i : ℕ) (s : code.Statement)
    → IsBlock n (block_of ss) → i < length ss → s ≡ get_or ss i s → IsGuarded n (statement_of s)
guarded_at n ss i s h l is =
    item_of statement_of ss i (IsGuarded n) s
    (guarded_behind n empty (map statement_of ss) h).1 l is

stops_behind_block : (n i t : ℕ) (os : List O) (x : MapError) (b : Block E) (ss : List Syntax)
    → Stops (block_events n i t b os) x → Stops (block_events n i t (block_behind b ss) os) x
unfolding block_behind block_events
stops_behind_block n i t os x b [] h = h
stops_behind_block n i t os x b (s ∷ ss) h =
    stops_behind_block n i t os x (behind b s) ss (stops_front (block_events n i t b os) _ x h)

pub stops_later : (n i t : ℕ) (os : List O) (x : MapError) (ss : List code.Statement) (k : ℕ)
    → Stops (block_events n i t (block_of (take k ss)) os) x
    → Stops (block_events n i t (block_of ss) os) x
stops_later n i t os x ss k h =
    subst (λ b. Stops (block_events n i t b os) x)
    (sym (ap (block_behind empty) (cut_all statement_of ss k)
    ∙ block_parts empty (map statement_of (take k ss)) (map statement_of (drop k ss))))
    (stops_behind_block n i t os x (block_of (take k ss)) (map statement_of (drop k ss)) h)

-- ---- depths
depth_behind : (b : Block E) (ss : List Syntax) → (depth b ≤ depth (block_behind b ss))
    × All (λ s. depth_inside s ≤ depth (block_behind b ss)) ss
unfolding block_behind depth
depth_behind b [] = (omega arith, All-nil (λ s. depth_inside s ≤ depth b))
depth_behind b (s ∷ ss) =
    let r = depth_behind (behind b s) ss in
    let k = r.0 in
    let l = le-max_left (depth b) (depth_inside s) in
    let m = le-max_right (depth b) (depth_inside s) in (
      omega (arith, k, l),
      All-cons (λ t. depth_inside t ≤ depth (block_behind (behind b s) ss)) s ss
          (omega (arith, k, m)) r.1,
    )

pub depth_at : (ss : List code.Statement) (i : ℕ) (s : code.Statement) → i < length ss
    → s ≡ get_or ss i s → depth_inside (statement_of s) ≤ depth (block_of ss)
depth_at ss i s l is =
    item_of statement_of ss i (λ t. depth_inside t ≤ depth (block_of ss)) s
    (depth_behind empty (map statement_of ss)).1 l is
