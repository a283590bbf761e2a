-- The commands that the frames of an interpreter represent.
use Rattle.std.specs.Prelude.{◌≡◌, ℕ, ◌+◌, ◌≤◌, ◌<◌, true, List, [], ◌∷◌, ◌++◌, length}
use Rattle.ec_machine.specs.declared.command.Command.{Command}
use Rattle.ec_machine.specs.declared.remaining.Frame.{Frame}
use Rattle.ec_machine.specs.Limits.{nesting, is_sound}
use Rattle.ec_machine.specs.Unrolled.{unroll, repeated}

abbrev pub frame_commands : Frame → List Command
frame_commands f = unroll f.rest.now ++ repeated f.times (unroll f.block.now)

-- the outermost frame is the first
unfoldable pub left_of : List Frame → List Command
left_of [] = []
left_of (f ∷ fs) = left_of fs ++ frame_commands f

-- a frame with so many frames around it
pub record FrameFits (i : ℕ) (f : Frame) : Type 0 where
  pub rest_some : 0 < length f.rest.now
  pub block_some : 0 < length f.block.now
  pub rest_sound : is_sound f.rest.now ≡ true
  pub block_sound : is_sound f.block.now ≡ true
  pub rest_nesting : i + nesting f.rest.now ≤ 4
  pub block_nesting : i + nesting f.block.now ≤ 4

abbrev pub FramesFit : ℕ → List Frame → Type 0
FramesFit i [] = Unit {0}
FramesFit i (f ∷ fs) = FrameFits i f × FramesFit (i + 1) fs
