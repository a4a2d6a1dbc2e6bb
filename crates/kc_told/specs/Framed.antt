-- What the descriptor of the page says that has an address, and the lines of that.
use Rattle.std.specs.Prelude.{ℕ, Bool, true, false, List, [], Option, Some, None, Result, Ok, Err}
use Rattle.kc_memory.specs.Image.{Image}
use Rattle.kc_found.specs.Violations.{Violation}
use Rattle.kc_owner.specs.declared.object.held.Held.{Held}
use Rattle.kc_owner.specs.declared.object.slab.Slab.{Slab}
use Rattle.kc_frame.specs.declared.frame.FrameWords.{FrameWords}
use Rattle.kc_frame.specs.declared.shape.FrameShape.{FrameShape}
use Rattle.kc_frame.specs.Frames.{frame_of}
use Rattle.kc_frame.specs.Text.{frame_lines}
use Rattle.kc_told.specs.declared.told.PageWords.{PageWords}

-- a page is a slab's, or whether it is can't be told
abbrev pub may_be_slab : Result (Option Slab) Violation → Bool
may_be_slab (Ok None) = false
may_be_slab (Ok (Some s)) = true
may_be_slab (Err v) = true

-- what a page's descriptor says, where the kernel has its words
abbrev pub frame_at : Image → Held → Option FrameShape → Option FrameWords
frame_at image h None = None
frame_at image h (Some shape) = Some (frame_of image shape h.page (may_be_slab h.slab))

abbrev pub frame_held : Image → PageWords → Option (Result Held Violation) → Option FrameWords
frame_held image words None = None
frame_held image words (Some (Ok h)) = frame_at image h words.frame
frame_held image words (Some (Err v)) = None

-- that of the page that has an address, by what holds it
abbrev pub frame_in : Image → Option PageWords → Option (Result Held Violation) → Option FrameWords
frame_in image None held = None
frame_in image (Some words) held = frame_held image words held

-- its lines
abbrev pub framed_lines : Option FrameWords → List ℕ
framed_lines None = []
framed_lines (Some f) = frame_lines f
