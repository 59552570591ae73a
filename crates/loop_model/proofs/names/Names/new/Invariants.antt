use Rattle.std.proofs.Common.{◌≡◌, take, drop, Global}
use Rattle.std.specs.Prelude.{map, string_bytes}
use Rattle.loop_model.specs.Names.{names_fault, fault_behind}
use Rattle.loop_model.proofs.names.Names.new.Given as goal

abbrev pub invariant-loop-name : goal.invariant-loop-name
invariant-loop-name l = record {
  taken : l.names ≡ map (string_bytes {Z = Global}) (take l.name-index l.list.items);
  same : fault_behind l.names (map (string_bytes {Z = Global}) (drop l.name-index l.list.items))
      ≡ names_fault (map (string_bytes {Z = Global}) l.list.items);
}
