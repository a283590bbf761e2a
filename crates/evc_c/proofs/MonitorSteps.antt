-- What the proofs of the functions on a monitor have in common.
pub use Rattle.std.proofs.Common.{◌≡◌, ℕ, List, [], ◌∷◌, refl, ap, length, w8, w64}
pub use Rattle.std.proofs.raw_atomic.Walks.{proved}
pub use base.Fraction.{full_share}
pub use base.Logic.{id⊢, sep}
pub use base.Fml.{ftrue, flft, flent}
pub use mir.Syntax.{named}
pub use mir.Val.{Val, vptr, vunit}
pub use prog.Wp.{WpFn}
pub use contract.Monad.{fact}
pub use contract.Running.{tables}
pub use types.Logic.{sem}
pub use types.Kit.{‵, raw, ◌⊛◌, some, later, prop, ◌$◌, ◌∵◌, !, qed, done, move, keep, drop, use1, use2, use3, split, join, fsplit, feq_i, feq_l, pick, await, regoal, suffices, frame, show}
pub use types.Tokens.{lft_new, lft_end}
pub use types.SemTy.{Body}
pub use types.Part.{whole, sub, agg}
pub use types.Run.{enter, addr, from, fld, hop, no_more, and_then, stop, returns, of_opd, unit_lit, init, assigns}
pub use types.ByLocal.{alloc_all, pass_all, free_all, look_at, look_in_at, get, get_in, through, sets, lands_as}
pub use denote.Builtin.{u8, usize, unit}
pub use denote.Exit.{yes}
pub use denote.Laws.{Is, shows}
pub use denote.Plain.{uint_Lawful}
pub use denote.Memory.{part_at, mem}
pub use denote.RawPtr.{Ptr, ptr_val, RawPtr, block_ptr, lies_at, room_at, in_a_block, rawptr_vals, rawptr_Tells}
pub use denote.Ref.{MutRef, mut_vals, mut_Tells}
pub use denote.Slice.{ShrSlice, shr_slice_vals, shr_slice_Tells, shr_slice_Lawful, MutSlice, mut_slice_vals, mut_slice_Tells, mut_slice_Lawful, slice_val}
pub use denote.Lend.{lends_ref, ref_back}
pub use denote.Signature.{plain, shr_slice_of, mut_slice_of, mut_ref_to}
pub use denote.Steps.{nothing, only, heard, peeks}
pub use denote.Triple.Call.{calls_at}
pub use denote.Triple.Clauses.{lasts}
pub use denote.Triple.Spec.{triple_of}
pub use denote.Triple.Table.{framed}
pub use denote.Triple.Walked.{says, Stays, walk_of, stay_dropped, Goes-dropped, gave_ref, Goes-gave_ref, gave_slice, Goes-gave_slice, ends_at}
pub use borrow.Table.OneValue.{part_in}
pub use Rattle.std.specs.contracts.alloc.Global.{the_row as Heap}
pub use Rattle.evc_c.specs.contracts.monitor.Monitor.{the_row as R}
pub use Rattle.evc_c.specs.declared.monitor.Monitor.{Monitor}
use denote.MutBor.{MutBor}

-- a monitor that is borrowed for a call: where it is, under which name, and as what
abbrev pub lent : ℕ → ℕ → ℕ → Monitor → MutBor Monitor
lent b o δ old = record { ref_ptr = (b, o); ghost_name = δ; now = old }
