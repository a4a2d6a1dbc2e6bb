-- The line that says why a dump can't be read.
use Rattle.std.specs.Prelude.{ℕ, List, ◌++◌, codes, decimal}
use Rattle.kc_flattened.specs.declared.fault.FlatFault.{FlatFault}
use Rattle.kc_flattened.specs.declared.fault.FlatFault.TheVariants.{Header, Bounds, PastEnd, NoEnd, TooMany}
use Rattle.kc_inflate.specs.declared.fault.ZlibFault.{ZlibFault}
use Rattle.kc_inflate.specs.declared.fault.ZlibFault.TheVariants as zlib
use Rattle.kc_kdump.specs.declared.fault.KdumpFault.{KdumpFault}
use Rattle.kc_kdump.specs.declared.fault.KdumpFault.TheVariants.{K1, K2, K3, K4, K5, K6, K7, K8}
use Rattle.kc_plain.specs.declared.unpacked.fault.PageFault.{PageFault}
use Rattle.kc_plain.specs.declared.unpacked.fault.PageFault.TheVariants as of_page
use Rattle.kc_any_dump.specs.declared.cause.Cause.{Cause}
use Rattle.kc_any_dump.specs.declared.cause.Cause.TheVariants.{Flattened, Compressed, Page, Memory}

-- what is wrong with a flattened file
abbrev pub flat_text : FlatFault → List ℕ
flat_text Header = codes "W1: the header of the flattened file"
flat_text Bounds = codes "W2: a record with an offset or a size that is out of bounds"
flat_text PastEnd = codes "W3: a record past the end of the file"
flat_text NoEnd = codes "W4: no last record"
flat_text TooMany = codes "W5: too many records"

-- what is wrong with a compressed dump
abbrev pub kdump_text : KdumpFault → List ℕ
kdump_text K1 = codes "K1: the file is too short for the headers"
kdump_text K2 = codes "K2: of the older format"
kdump_text K3 = codes "K3: of another version"
kdump_text K4 = codes "K4: blocks of another size"
kdump_text K5 = codes "K5: one part of a split dump: makedumpfile --reassemble joins the parts"
kdump_text K6 = codes "K6: bitmaps outside the file, or too short"
kdump_text K7 = codes "K7: notes outside the file, or too many"
kdump_text K8 = codes "K8: too many runs of page frames"

-- what is wrong with a zlib stream
abbrev pub zlib_text : ZlibFault → List ℕ
zlib_text zlib.InputEnds = codes "the stream ends too soon"
zlib_text zlib.Head = codes "no zlib stream, or one with a preset dictionary"
zlib_text zlib.BlockType = codes "a block of an unknown type"
zlib_text zlib.StoredLength = codes "a stored block's length isn't the complement of its check"
zlib_text zlib.TooManyCodes = codes "a set of codes has too many of a length"
zlib_text zlib.Repeat = codes "a code length is repeated where it can't be"
zlib_text zlib.NoCode = codes "the bits begin with no code"
zlib_text zlib.Distance = codes "a distance leads to before the first byte"
zlib_text zlib.TooManyBytes = codes "the stream has too many bytes"
zlib_text zlib.TooFewBytes = codes "the stream has too few bytes"
zlib_text zlib.Sum = codes "the sum at the end is another"

-- what is wrong with a page
abbrev pub page_text : PageFault → List ℕ
page_text of_page.OutsideFile = codes "D1: its bytes are outside the file"
page_text of_page.Size = codes "D2: its bytes are of another number"
page_text (of_page.Packing flags) = codes "D3: packed in another way, by flags " ++ decimal flags
page_text (of_page.Zlib fault) = codes "D4: no zlib stream of a page: " ++ zlib_text fault
page_text (of_page.Lzo fault) = codes "D5: no LZO stream of a page"
page_text (of_page.Snappy fault) = codes "D6: no snappy stream of a page"
page_text (of_page.Zstd fault) = codes "D7: no zstd stream of a page"

-- why a dump can't be read
abbrev pub cause_text : Cause → List ℕ
cause_text (Flattened fault) = codes "refused dump " ++ flat_text fault
cause_text (Compressed fault) = codes "refused dump " ++ kdump_text fault
cause_text (Page bad) = codes "bad page " ++ decimal bad.number ++ codes " " ++ page_text bad.fault
cause_text Memory = codes "memory refused"

abbrev pub cause_line : Cause → List ℕ
cause_line cause = cause_text cause ++ codes "\n"
