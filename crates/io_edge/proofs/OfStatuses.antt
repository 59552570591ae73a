-- Statuses of answers.
--   status_of, text_of        of answers that are the same;  some_answer, some_status, no_answer: of answers that are given
--   settled_yes, settled_no, settled_fault, settled_wide, settled_budget     each of these statuses is settled
--   plain_yes, plain_no       each of these is settled, and isn't an exhausted budget
--   refusing_fault, refusing_wide     a fault and a number that doesn't fit refuse
--   unread_status             to a read that gave no bytes
use Rattle.std.proofs.Common.{◌≡◌, ◌≢◌, ℕ, List, ap}
use Rattle.std.specs.Prelude.{Some, None}
use Rattle.io_edge.specs.declared.files.FilesError.{FilesError}
use Rattle.io_edge.specs.declared.files.FilesError.TheVariants.{TooLong, Failed, Memory}
use Rattle.io_edge.specs.declared.answer.Status.{Status}
use Rattle.io_edge.specs.declared.answer.Status.TheVariants as status
use Rattle.io_edge.specs.Texts.{Answer, unread}
use Rattle.io_edge.specs.Settled.{IsSettled, IsPlain, IsRefusing}

pub status_of : {a b : Answer} → a ≡ b → a.status ≡ b.status
status_of e = ap (λ (a : Answer). a.status) e

pub text_of : {a b : Answer} → a ≡ b → a.text ≡ b.text
text_of e = ap (λ (a : Answer). a.text) e

pub no_answer : (a : Answer) → None ≡ Some a → ⊥
no_answer a e = cc

pub some_status : (s t : Status) → Some s ≡ Some t → t ≡ s
some_status s t e = cc

pub some_answer : (a b : Answer) → Some a ≡ Some b → b ≡ a
some_answer a b e = cc

settles : (s : Status) → s ≢ status.Usage → s ≢ status.Memory → s ≢ status.ReadFault
    → s ≢ status.WriteFault → IsSettled s
settles s u m r w = record { usage_not = u; memory_not = m; read_not = r; write_not = w }

pub settled_yes : (s : Status) → s ≡ status.Yes → IsSettled s
settled_yes s e = settles s (λ h. (cc)) (λ h. (cc)) (λ h. (cc)) (λ h. (cc))

pub settled_no : (s : Status) → s ≡ status.No → IsSettled s
settled_no s e = settles s (λ h. (cc)) (λ h. (cc)) (λ h. (cc)) (λ h. (cc))

pub settled_fault : (s : Status) → s ≡ status.Fault → IsSettled s
settled_fault s e = settles s (λ h. (cc)) (λ h. (cc)) (λ h. (cc)) (λ h. (cc))

pub settled_wide : (s : Status) → s ≡ status.Wide → IsSettled s
settled_wide s e = settles s (λ h. (cc)) (λ h. (cc)) (λ h. (cc)) (λ h. (cc))

pub settled_budget : (s : Status) → s ≡ status.Budget → IsSettled s
settled_budget s e = settles s (λ h. (cc)) (λ h. (cc)) (λ h. (cc)) (λ h. (cc))

pub plain_yes : (s : Status) → s ≡ status.Yes → IsPlain s
plain_yes s e = record { settled = settled_yes s e; budget_not = λ h. (cc) }

pub plain_no : (s : Status) → s ≡ status.No → IsPlain s
plain_no s e = record { settled = settled_no s e; budget_not = λ h. (cc) }

plain_fault : (s : Status) → s ≡ status.Fault → IsPlain s
plain_fault s e = record { settled = settled_fault s e; budget_not = λ h. (cc) }

plain_wide : (s : Status) → s ≡ status.Wide → IsPlain s
plain_wide s e = record { settled = settled_wide s e; budget_not = λ h. (cc) }

pub refusing_fault : (s : Status) → s ≡ status.Fault → IsRefusing s
refusing_fault s e = record { yes_not = λ h. (cc); no_not = λ h. (cc); plain = plain_fault s e }

pub refusing_wide : (s : Status) → s ≡ status.Wide → IsRefusing s
refusing_wide s e = record { yes_not = λ h. (cc); no_not = λ h. (cc); plain = plain_wide s e }

pub unread_status : (name : List ℕ) (e : FilesError) (a : Answer) → unread name e ≡ Some a
    → a.status ≡ status.ReadFault
unread_status name TooLong a is = cc
unread_status name Failed a is = cc
unread_status name Memory a is = absurd (cc)
