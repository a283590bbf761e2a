-- Monitors in the caller's memory.
use Rattle.std.specs.Prelude.{ℕ, ◌*◌}
use Rattle.std.specs.Borrow.{full_share}
use Rattle.std.specs.Ptr.{Ptr, lies_at, room_at}
use base.Fml.{Fml}
use denote.Memory.{lone}
use prog.Memory.{size}
use Rattle.evc_c.specs.contracts.monitor.Monitor.{the_row}
use Rattle.evc_c.specs.declared.monitor.Monitor.{Monitor}

-- the size of a monitor, in bytes
abbrev pub monitor_size : ℕ
monitor_size = size (lone the_row.mir)

-- the size of a monitor in evc.h, in bytes: 1280 words of 8 bytes
abbrev pub room_size : ℕ
room_size = 1280 * 8

-- memory for a monitor is at this pointer
abbrev pub room_for_monitor : Ptr → Fml
room_for_monitor at = room_at the_row at

-- this monitor is at this pointer, with all that it owns
abbrev pub monitor_at : Ptr → Monitor → Fml
monitor_at at m = lies_at the_row full_share at m
