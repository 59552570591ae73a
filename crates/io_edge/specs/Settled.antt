-- Which statuses an answer by what the files hold may have.
--   IsSettled s     no status of the arguments, of memory or of the outside
--   IsPlain s       nor that of an exhausted budget
--   IsRefusing s    a plain one that is neither a yes nor a no
use Rattle.std.specs.Prelude.{◌≢◌}
use Rattle.io_edge.specs.declared.answer.Status.{Status}
use Rattle.io_edge.specs.declared.answer.Status.TheVariants as status

pub record IsSettled (s : Status) : Type 0 where
  pub usage_not : s ≢ status.Usage
  pub memory_not : s ≢ status.Memory
  pub read_not : s ≢ status.ReadFault
  pub write_not : s ≢ status.WriteFault

pub record IsPlain (s : Status) : Type 0 where
  pub settled : IsSettled s
  pub budget_not : s ≢ status.Budget

pub record IsRefusing (s : Status) : Type 0 where
  pub yes_not : s ≢ status.Yes
  pub no_not : s ≢ status.No
  pub plain : IsPlain s
