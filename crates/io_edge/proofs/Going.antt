-- How a course is gone.
--   unheard           nothing was read, and memory was wanting
--   at_end            it ends, and nothing more was read
--   reads_on          a file was read, and it goes on by the bytes
--   stops_at          a file gave no bytes
--   read_told         a read behind another one, where the same is told
--   refused           what a refusal says, of its answer;  refused_made: of the answer as it is made;  replied: what an answer says
--   obeys             what was asked for was done;  obeys_nothing: nothing was asked for;  obeys_without: memory was wanting
--   obeys_as          a command that is one of several;  obeys_same: what is asked for is the same
--   finishes          what was asked for was done, and delivered
use Rattle.std.proofs.Common.{arith, ◌≡◌, ℕ, List, [], ◌∷◌, ◌++◌, refl, sym, subst, ap, ◌∙◌, append_assoc, Result, Ok, Err, inl}
use Rattle.std.specs.Prelude.{◌⊎◌, Option, Some, None, IfSome, IfOk, option_map, is_some, true}
use Rattle.std.specs.declared.alloc.AllocError.{AllocError}
use Rattle.std.proofs.lemmas.List.{append-nil}
use Rattle.io_edge.specs.declared.files.FilesError.{FilesError}
use Rattle.io_edge.specs.Reads.{Entry}
use Rattle.io_edge.specs.Outside.{FilesView}
use Rattle.machines.specs.Journal.{Journal}
use Rattle.io_edge.specs.declared.answer.Answer as made
use Rattle.io_edge.specs.Texts.{Answer, unread}
use Rattle.io_edge.specs.Views.{answer_view, seen_answer}
use Rattle.io_edge.specs.declared.refusal.Refusal.{Refusal}
use Rattle.io_edge.specs.Refusals.{seen_refusal}
use Rattle.io_edge.specs.Change.{Change, ◌⟶◌}
use Rattle.io_edge.specs.Delivery.{Delivers}
use Rattle.io_edge.specs.Course.{File, Got, Course, reads, ends, IsTold}
use Rattle.io_edge.specs.Outcome.{Call, HasRead, Says, Obeys, reply_of, answer_to, Finishes}

none_added : (old new : List Entry) → new ≡ old → new ≡ old ++ []
none_added old new e = e ∙ sym (append-nil old)

-- a list with these behind it, and those behind them
with_both : (a b c e f : List Entry) → b ≡ a ++ e → c ≡ b ++ f → c ≡ a ++ (e ++ f)
with_both a b c e f first second = second ∙ ap (λ x. x ++ f) first ∙ append_assoc a e f

module _ (files : Change FilesView) where
  pub unheard : (course : Course) (m : Journal) → files.after.reads ≡ files.before.reads
      → files.after.tries ≡ files.before.tries → Says course files (m ⟶ m) None
  unheard (reads file next) m e t = record {
    gots = [];
    tried = omega (arith, t);
    added = none_added files.before.reads files.after.reads e;
    are_told = tt;
    keeps = refl;
    answers = tt;
  }
  unheard (ends Leaves Answers) m e t = record {
    gots = [];
    tried = omega (arith, t);
    added = none_added files.before.reads files.after.reads e;
    are_told = refl;
    keeps = inl refl;
    answers = tt;
  }

  pub at_end : (Leaves : Journal → Type 0) (Answers : Journal → Answer → Type 0) (m m' : Journal)
      (answer : Option Answer) → files.after.reads ≡ files.before.reads
      → files.after.tries ≡ files.before.tries → (m' ≡ m) ⊎ Leaves m'
      → IfSome answer (Answers m') → Says (ends Leaves Answers) files (m ⟶ m') answer
  at_end Leaves Answers m m' answer e t keeps answers = record {
    gots = [];
    tried = omega (arith, t);
    added = none_added files.before.reads files.after.reads e;
    are_told = refl;
    keeps = keeps;
    answers = answers;
  }

  pub stops_at : (file : File) (next : List ℕ → Course) (e : FilesError) (m : Journal)
      (answer : Option Answer) → HasRead file (Err e) files
      → IfSome answer (λ a. unread file.name e ≡ Some a)
      → Says (reads file next) files (m ⟶ m) answer
  stops_at file next e m answer h answers =
      let first = h.tried in
      record {
        gots = Err e ∷ [];
        tried = omega (arith, first);
        added = h.added;
        are_told = (h.is_told, refl);
        keeps = refl;
        answers = answers;
      }

pub reads_on : (file : File) (next : List ℕ → Course) (bytes : List ℕ)
    (before between after : FilesView) (meter : Change Journal) (answer : Option Answer)
    → HasRead file (Ok bytes) (before ⟶ between)
    → Says (next bytes) (record between { told = before.told } ⟶ after) meter answer
    → Says (reads file next) (before ⟶ after) meter answer
reads_on file next bytes before between after meter answer h s =
    let first = h.tried in
    let second = s.tried in
    record {
      gots = Ok bytes ∷ s.gots;
      tried = omega (arith, first, second);
      added = with_both before.reads between.reads after.reads _ _ h.added s.added;
      are_told = (h.is_told, s.are_told);
      keeps = s.keeps;
      answers = s.answers;
    }

-- a read behind another one, where the same is told
pub read_told : (file : File) (got : Got) (before after : FilesView)
    (told : List ℕ → Option (List ℕ)) → ((n : List ℕ) → before.told n ≡ told n)
    → HasRead file got (before ⟶ after)
    → HasRead file got (record before { told = told } ⟶ after)
read_told file got before after told same h = record {
  added = h.added;
  tried = h.tried;
  is_told = subst (λ x. IsTold x file.limit got) (same file.name) h.is_told;
}

-- ---- what a refusal and an answer say
pub refused : (refusal : Refusal) (r : Result made.Answer AllocError) (P : Answer → Type 0)
    → IfSome (seen_refusal refusal) P → seen_answer r ≡ seen_refusal refusal
    → IfSome (seen_answer r) P
refused refusal r P h same = subst (λ seen. IfSome seen P) (sym same) h

pub refused_made : (refusal : Refusal) (r : Result made.Answer AllocError) (P : Answer → Type 0)
    → IfSome (seen_refusal refusal) P → seen_answer r ≡ seen_refusal refusal
    → IfOk r (λ a. P (answer_view a))
refused_made refusal r P h same = go r (refused refusal r P h same)
  where
    go : (r : Result made.Answer AllocError) → IfSome (seen_answer r) P
        → IfOk r (λ a. P (answer_view a))
    go (Ok a) h = h
    go (Err e) h = tt

pub replied : (r : Result made.Answer AllocError) (P : Answer → Type 0)
    → IfOk r (λ a. P (answer_view a)) → IfSome (seen_answer r) P
replied (Ok a) P h = h
replied (Err e) P h = tt

-- ---- what was asked for
module _ {A : Type 0} (course : A → Course) (request : Option A) where
  pub obeys : (a : A) (files : Change FilesView) (meter : Change Journal)
      (r : Result made.Answer AllocError) (result : Result (Option made.Answer) AllocError)
      → Some a ≡ request → Says (course a) files meter (seen_answer r) → result ≡ reply_of r
      → Obeys course request files meter result
  obeys a files meter (Ok given) result is s e =
      subst (λ o. Obeys course o files meter result) is
      (subst (λ x. Obeys course (Some a) files meter x) (sym e) s)
  obeys a files meter (Err why) result is s e =
      subst (λ o. Obeys course o files meter result) is
      (subst (λ x. Obeys course (Some a) files meter x) (sym e) s)

  pub obeys_nothing : (files : Change FilesView) (m : Journal) → None ≡ request
      → files.after.reads ≡ files.before.reads → files.after.tries ≡ files.before.tries
      → Obeys course request files (m ⟶ m) (Ok None)
  obeys_nothing files m none e t =
      subst (λ o. Obeys course o files (m ⟶ m) (Ok None)) none
      (record { unread = e; untried = t; kept = refl }, refl)

module _ {A : Type 0} (course : A → Course) where
  pub obeys_without : (request : Option A) (files : Change FilesView) (m : Journal)
      (e : AllocError) → is_some request ≡ true → files.after.reads ≡ files.before.reads
      → files.after.tries ≡ files.before.tries → Obeys course request files (m ⟶ m) (Err e)
  obeys_without None files m e some u t = absurd (cc)
  obeys_without (Some a) files m e some u t = unheard files (course a) m u t

  pub obeys_same : (request request' : Option A) (files : Change FilesView)
      (meter : Change Journal) (result : Result (Option made.Answer) AllocError)
      → request ≡ request' → Obeys course request files meter result
      → Obeys course request' files meter result
  obeys_same request request' files meter result e h =
      subst (λ o. Obeys course o files meter result) e h

  pub finishes : (request : Option A) (usage : Answer) (call : Call)
      (result : Result (Option made.Answer) AllocError)
      → Obeys course request call.files call.meter result
      → Delivers call.sink (answer_to usage result) call.status
      → Finishes course request usage call
  finishes None usage call (Ok None) h d = record { idle = h.0; delivers = d }
  finishes None usage call (Ok (Some a)) h d =
      absurd (let x : Ok (Some a) ≡ Ok None = h.1 in let z : ⊥ = cc in z)
  finishes None usage call (Err e) h d =
      absurd (let x : Err e ≡ Ok None = h.1 in let z : ⊥ = cc in z)
  finishes (Some a) usage call (Ok None) h d = absurd h
  finishes (Some a) usage call (Ok (Some given)) h d =
      record { answer = Some (answer_view given); says = h; delivers = d }
  finishes (Some a) usage call (Err e) h d = record { answer = None; says = h; delivers = d }

-- a command that is one of several
pub obeys_as : {A B : Type 0} (course : A → Course) (all : B → Course) (f : A → B)
    (same : (a : A) → all (f a) ≡ course a) (request : Option A) (files : Change FilesView)
    (meter : Change Journal) (result : Result (Option made.Answer) AllocError)
    → Obeys course request files meter result
    → Obeys all (option_map f request) files meter result
obeys_as course all f same None files meter result h = h
obeys_as course all f same (Some a) files meter (Ok None) h = absurd h
obeys_as course all f same (Some a) files meter (Ok (Some given)) h =
    subst (λ c. Says c files meter (Some (answer_view given))) (sym (same a)) h
obeys_as course all f same (Some a) files meter (Err e) h =
    subst (λ c. Says c files meter None) (sym (same a)) h
