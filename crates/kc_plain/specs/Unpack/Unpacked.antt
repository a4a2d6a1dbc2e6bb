-- The bytes of a page (makedumpfile, diskdump_mod.h: DUMP_DH_COMPRESSED_ZLIB is 1, DUMP_DH_COMPRESSED_LZO is 2,
-- DUMP_DH_COMPRESSED_SNAPPY is 4, DUMP_DH_COMPRESSED_ZSTD is 0x20).
use Rattle.std.specs.Prelude.{ℕ, ◌+◌, not, ◌==◌, nat_le, List, length, replicate, Option, Some, None, Result, Ok, Err, if◌then◌else◌}
use Rattle.kc_inflate.specs.declared.fault.ZlibFault.{ZlibFault}
use Rattle.kc_inflate.specs.Zlib.{zlib_of}
use Rattle.kc_lzo.specs.declared.fault.LzoFault.{LzoFault}
use Rattle.kc_lzo.specs.Lzo.{lzo_of}
use Rattle.kc_snappy.specs.declared.fault.SnappyFault.{SnappyFault}
use Rattle.kc_snappy.specs.Snappy.{snappy_of}
use Rattle.kc_zstd.specs.declared.fault.ZstdFault.{ZstdFault}
use Rattle.kc_zstd.specs.Zstd.{zstd_of}
use Rattle.kc_kdump.specs.declared.descriptor.Descriptor.{Descriptor}
use Rattle.kc_kdump.specs.Bytes.{part}
use Rattle.kc_plain.specs.declared.unpacked.codec.Codec.{Codec}
use Rattle.kc_plain.specs.declared.unpacked.codec.Codec.TheVariants as as_codec
use Rattle.kc_plain.specs.declared.unpacked.fault.PageFault.{PageFault}
use Rattle.kc_plain.specs.declared.unpacked.fault.PageFault.TheVariants.{OutsideFile, Size, Packing, Zlib, Lzo, Snappy, Zstd}

-- what a stream comes to, with its fault as a page's
abbrev pub by_zlib : Result (List ℕ) ZlibFault → Result (List ℕ) PageFault
by_zlib (Ok page) = Ok page
by_zlib (Err fault) = Err (Zlib fault)

abbrev pub by_lzo : Result (List ℕ) LzoFault → Result (List ℕ) PageFault
by_lzo (Ok page) = Ok page
by_lzo (Err fault) = Err (Lzo fault)

abbrev pub by_snappy : Result (List ℕ) SnappyFault → Result (List ℕ) PageFault
by_snappy (Ok page) = Ok page
by_snappy (Err fault) = Err (Snappy fault)

abbrev pub by_zstd : Result (List ℕ) ZstdFault → Result (List ℕ) PageFault
by_zstd (Ok page) = Ok page
by_zstd (Err fault) = Err (Zstd fault)

-- a page that isn't packed
abbrev pub raw : List ℕ → Result (List ℕ) PageFault
raw bytes = if length bytes == 4096 then Ok bytes else Err Size

-- how a page is packed, by the flags
abbrev pub codec_of : ℕ → Option Codec
codec_of flags =
    if flags == 0 then Some as_codec.Raw
    else (if flags == 1 then Some as_codec.Zlib
    else (if flags == 2 then Some as_codec.Lzo
    else (if flags == 4 then Some as_codec.Snappy
    else (if flags == 0x20 then Some as_codec.Zstd
    else None))))

-- the page of 4096 bytes that bytes are packed from
abbrev pub by_codec : Codec → List ℕ → Result (List ℕ) PageFault
by_codec as_codec.Raw bytes = raw bytes
by_codec as_codec.Zlib bytes = by_zlib (zlib_of 4096 bytes)
by_codec as_codec.Lzo bytes = by_lzo (lzo_of 4096 bytes)
by_codec as_codec.Snappy bytes = by_snappy (snappy_of 4096 bytes)
by_codec as_codec.Zstd bytes = by_zstd (zstd_of 4096 bytes)

abbrev pub unpacked_by : ℕ → Option Codec → List ℕ → Result (List ℕ) PageFault
unpacked_by flags None bytes = Err (Packing flags)
unpacked_by flags (Some codec) bytes = by_codec codec bytes

-- the same by the flags
unfoldable pub unpacked : ℕ → List ℕ → Result (List ℕ) PageFault
unpacked flags bytes = unpacked_by flags (codec_of flags) bytes

-- what is wrong with a descriptor, in a file of this size: its bytes aren't inside the file, or they are more than a page has
unfoldable pub descriptor_fault : ℕ → Descriptor → Option PageFault
descriptor_fault size descriptor =
    if not (nat_le (descriptor.offset + descriptor.size) size) then Some OutsideFile
    else (if not (nat_le descriptor.size 4096) then Some Size
    else None)

-- a fault, or else what follows
abbrev pub unless : {A : Type 0} → Option PageFault → Result A PageFault → Result A PageFault
unless None r = r
unless (Some fault) r = Err fault

-- the page of a descriptor
unfoldable pub page_of : List ℕ → Descriptor → Result (List ℕ) PageFault
page_of bytes descriptor =
    unless (descriptor_fault (length bytes) descriptor) (unpacked descriptor.flags (part descriptor.offset descriptor.size bytes))

-- the page, and zeros where it can't be unpacked
abbrev pub page_or_zeros : Result (List ℕ) PageFault → List ℕ
page_or_zeros (Ok page) = page
page_or_zeros (Err fault) = replicate 4096 0
