-- Each page has 4096 bytes.
use Rattle.std.proofs.Common.{◌≡◌, ℕ, Bool, true, false, cond, nat_eq, List, [], length, replicate, Option, Some, None, Result, Ok, Err, refl, sym, ap, ◌∙◌, arith, eqb-true}
use Rattle.std.proofs.lemmas.List.{length-replicate}
use Rattle.kc_inflate.specs.declared.fault.ZlibFault.{ZlibFault}
use Rattle.kc_inflate.specs.Zlib.{zlib_of}
use Rattle.kc_inflate.proofs.ZlibLaws.{zlib_length}
use Rattle.kc_lzo.specs.declared.fault.LzoFault.{LzoFault}
use Rattle.kc_lzo.specs.Lzo.{lzo_of}
use Rattle.kc_lzo.proofs.SizeLaws.{lzo_length}
use Rattle.kc_snappy.specs.declared.fault.SnappyFault.{SnappyFault}
use Rattle.kc_snappy.specs.Snappy.{snappy_of}
use Rattle.kc_snappy.proofs.SnappyLaws.{snappy_length}
use Rattle.kc_zstd.specs.declared.fault.ZstdFault.{ZstdFault}
use Rattle.kc_zstd.specs.declared.fault.ZstdFault.TheVariants.{TooFewBytes}
use Rattle.kc_zstd.specs.Reading.{◌>>=◌}
use Rattle.kc_zstd.specs.Zstd.{frames_from, whole, zstd_of}
use Rattle.kc_kdump.specs.declared.descriptor.Descriptor.{Descriptor}
use Rattle.kc_kdump.specs.declared.layout.Layout.{Layout}
use Rattle.kc_kdump.specs.Bytes.{part}
use Rattle.kc_kdump.specs.Dump.{descriptor_at}
use Rattle.kc_plain.specs.declared.unpacked.codec.Codec.{Codec}
use Rattle.kc_plain.specs.declared.unpacked.codec.Codec.TheVariants.{Raw, Zlib, Lzo, Snappy, Zstd}
use Rattle.kc_plain.specs.declared.unpacked.fault.PageFault.{PageFault}
use Rattle.kc_plain.specs.declared.unpacked.fault.PageFault.TheVariants.{Packing, Size}
use Rattle.kc_plain.specs.Unpack.Plain.{page_at}
use Rattle.kc_plain.specs.Unpack.Unpacked.{by_codec, by_lzo, by_snappy, by_zlib, by_zstd, codec_of, descriptor_fault, page_of, page_or_zeros, raw, unless, unpacked, unpacked_by}

-- a page, or none
IsWhole : Result (List ℕ) PageFault → Type 0
IsWhole r = (page : List ℕ) → r ≡ Ok page → length page ≡ 4096

raw_whole : (bytes : List ℕ) (b : Bool) → nat_eq (length bytes) 4096 ≡ b → IsWhole (cond b (Ok bytes) (Err Size))
unfolding IsWhole
raw_whole bytes true is page got = let same : bytes ≡ page = cc in ap length (sym same) ∙ eqb-true (length bytes) 4096 is
raw_whole bytes false is page got = absurd (let none : ⊥ = cc in none)

lzo_whole : (bytes : List ℕ) (r : Result (List ℕ) LzoFault) → lzo_of 4096 bytes ≡ r → IsWhole (by_lzo r)
unfolding IsWhole
lzo_whole bytes (Ok out) is page got = let same : out ≡ page = cc in ap length (sym same) ∙ lzo_length 4096 bytes out is
lzo_whole bytes (Err fault) is page got = absurd (let none : ⊥ = cc in none)

zlib_whole : (bytes : List ℕ) (r : Result (List ℕ) ZlibFault) → zlib_of 4096 bytes ≡ r → IsWhole (by_zlib r)
unfolding IsWhole
zlib_whole bytes (Ok out) is page got = let same : out ≡ page = cc in ap length (sym same) ∙ zlib_length 4096 bytes out is
zlib_whole bytes (Err fault) is page got = absurd (let none : ⊥ = cc in none)

snappy_whole : (bytes : List ℕ) (r : Result (List ℕ) SnappyFault) → snappy_of 4096 bytes ≡ r → IsWhole (by_snappy r)
unfolding IsWhole
snappy_whole bytes (Ok out) is page got = let same : out ≡ page = cc in ap length (sym same) ∙ snappy_length 4096 bytes out is
snappy_whole bytes (Err fault) is page got = absurd (let none : ⊥ = cc in none)

-- what frames hold has the length that is wanted
sized : (wanted : ℕ) (bytes out : List ℕ) (b : Bool) → nat_eq (length bytes) wanted ≡ b → cond b (Ok bytes) (Err TooFewBytes) ≡ Ok out → length out ≡ wanted
sized wanted bytes out true is got = let same : bytes ≡ out = cc in ap length (sym same) ∙ eqb-true (length bytes) wanted is
sized wanted bytes out false is got = absurd (let none : ⊥ = cc in none)

framed : (wanted : ℕ) (r : Result (List ℕ) ZstdFault) (out : List ℕ) → (r >>= whole wanted) ≡ Ok out → length out ≡ wanted
framed wanted (Ok bytes) out got = sized wanted bytes out (nat_eq (length bytes) wanted) refl got
framed wanted (Err fault) out got = absurd (let none : ⊥ = cc in none)

zstd_length : (wanted : ℕ) (bytes out : List ℕ) → zstd_of wanted bytes ≡ Ok out → length out ≡ wanted
unfolding zstd_of
zstd_length wanted bytes out got = framed wanted (frames_from (length bytes) wanted bytes []) out got

zstd_whole : (bytes : List ℕ) (r : Result (List ℕ) ZstdFault) → zstd_of 4096 bytes ≡ r → IsWhole (by_zstd r)
unfolding IsWhole
zstd_whole bytes (Ok out) is page got = let same : out ≡ page = cc in ap length (sym same) ∙ zstd_length 4096 bytes out is
zstd_whole bytes (Err fault) is page got = absurd (let none : ⊥ = cc in none)

none_whole : (fault : PageFault) → IsWhole (Err fault)
unfolding IsWhole
none_whole fault page got = absurd (let none : ⊥ = cc in none)

codec_whole : (codec : Codec) (bytes : List ℕ) → IsWhole (by_codec codec bytes)
codec_whole Raw bytes = raw_whole bytes (nat_eq (length bytes) 4096) refl
codec_whole Zlib bytes = zlib_whole bytes (zlib_of 4096 bytes) refl
codec_whole Lzo bytes = lzo_whole bytes (lzo_of 4096 bytes) refl
codec_whole Snappy bytes = snappy_whole bytes (snappy_of 4096 bytes) refl
codec_whole Zstd bytes = zstd_whole bytes (zstd_of 4096 bytes) refl

by_whole : (flags : ℕ) (codec : Option Codec) (bytes : List ℕ) → IsWhole (unpacked_by flags codec bytes)
by_whole flags None bytes = none_whole (Packing flags)
by_whole flags (Some codec) bytes = codec_whole codec bytes

unpacked_whole : (flags : ℕ) (bytes : List ℕ) → IsWhole (unpacked flags bytes)
unfolding unpacked
unpacked_whole flags bytes = by_whole flags (codec_of flags) bytes

unless_whole : (fault : Option PageFault) (r : Result (List ℕ) PageFault) → IsWhole r → IsWhole (unless fault r)
unless_whole None r whole = whole
unless_whole (Some fault) r whole = none_whole fault

page_whole : (bytes : List ℕ) (descriptor : Descriptor) → IsWhole (page_of bytes descriptor)
unfolding page_of
page_whole bytes descriptor = unless_whole (descriptor_fault (length bytes) descriptor) _ (unpacked_whole descriptor.flags (part descriptor.offset descriptor.size bytes))

zeros_whole : (r : Result (List ℕ) PageFault) → IsWhole r → length (page_or_zeros r) ≡ 4096
unfolding IsWhole
zeros_whole (Ok page) whole = whole page refl
zeros_whole (Err fault) whole = length-replicate {A = ℕ} 4096 0

pub pages_whole : (layout : Layout) (bytes : List ℕ) (i : ℕ) → length (page_at layout bytes i) ≡ 4096
pages_whole layout bytes i = zeros_whole (page_of bytes (descriptor_at layout bytes i)) (page_whole bytes (descriptor_at layout bytes i))
