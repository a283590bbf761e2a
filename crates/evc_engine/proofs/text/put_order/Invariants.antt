use Rattle.std.proofs.Common.{◌≡◌, ◌∷◌, ◌++◌}
use Rattle.std.specs.List.{flat_map}
use Rattle.ec_text.specs.Puts.{Puts}
use Rattle.ec_order.specs.declared.linearized_entry.LinearizedEntry.{LinearizedEntry}
use Rattle.evc_engine.specs.Texts.{linearized_line}
use Rattle.evc_engine.proofs.text.put_order.Given as goal

-- the lines so far
abbrev pub invariant-loop-linearized : goal.invariant-loop-linearized
invariant-loop-linearized g l = record {
  put : Puts l.initial.out l.out (flat_map (λ (d : LinearizedEntry). 10 ∷ linearized_line l.spellings d) l.yielded);
  order : l.yielded ++ l.linearized-iterator ≡ l.fn.calls;
}
