-- The table of the size classes, and what follows from it. Sizes are in bytes, and a page has 4096 bytes.
use Rattle.std.specs.Prelude.{◌==◌, ℕ, ◌*◌, ◌/◌, ◌%◌, ◌^◌, ◌<◌, ◌≤◌, min, max, List, [], ◌∷◌, ◌&&◌, if◌then◌else◌, nat_lt, nat_le, slice_index, find, unwrap_or}
use Rattle.std.specs.List.{position_or_len}
use Rattle.std.specs.Int.{next_multiple_of, IsPowerOfTwo}

-- The sizes of the 121 classes: 8, seven steps of 16 up to 128, and then four to each doubling.
-- It opens only where a proof unfolds it, so that no goal shows all of it.
unfoldable pub class_sizes : List ℕ
class_sizes =
    8 ∷ 16 ∷ 32 ∷ 48 ∷ 64 ∷ 80 ∷ 96 ∷ 112 ∷ 128 ∷
    160 ∷ 192 ∷ 224 ∷ 256 ∷
    320 ∷ 384 ∷ 448 ∷ 512 ∷
    640 ∷ 768 ∷ 896 ∷ 1024 ∷
    1280 ∷ 1536 ∷ 1792 ∷ 2048 ∷
    2560 ∷ 3072 ∷ 3584 ∷ 4096 ∷
    5120 ∷ 6144 ∷ 7168 ∷ 8192 ∷
    10240 ∷ 12288 ∷ 14336 ∷ 16384 ∷
    20480 ∷ 24576 ∷ 28672 ∷ 32768 ∷
    40960 ∷ 49152 ∷ 57344 ∷ 65536 ∷
    81920 ∷ 98304 ∷ 114688 ∷ 131072 ∷
    163840 ∷ 196608 ∷ 229376 ∷ 262144 ∷
    327680 ∷ 393216 ∷ 458752 ∷ 524288 ∷
    655360 ∷ 786432 ∷ 917504 ∷ 1048576 ∷
    1310720 ∷ 1572864 ∷ 1835008 ∷ 2097152 ∷
    2621440 ∷ 3145728 ∷ 3670016 ∷ 4194304 ∷
    5242880 ∷ 6291456 ∷ 7340032 ∷ 8388608 ∷
    10485760 ∷ 12582912 ∷ 14680064 ∷ 16777216 ∷
    20971520 ∷ 25165824 ∷ 29360128 ∷ 33554432 ∷
    41943040 ∷ 50331648 ∷ 58720256 ∷ 67108864 ∷
    83886080 ∷ 100663296 ∷ 117440512 ∷ 134217728 ∷
    167772160 ∷ 201326592 ∷ 234881024 ∷ 268435456 ∷
    335544320 ∷ 402653184 ∷ 469762048 ∷ 536870912 ∷
    671088640 ∷ 805306368 ∷ 939524096 ∷ 1073741824 ∷
    1342177280 ∷ 1610612736 ∷ 1879048192 ∷ 2147483648 ∷
    2684354560 ∷ 3221225472 ∷ 3758096384 ∷ 4294967296 ∷
    5368709120 ∷ 6442450944 ∷ 7516192768 ∷ 8589934592 ∷
    10737418240 ∷ 12884901888 ∷ 15032385536 ∷ 17179869184 ∷
    21474836480 ∷ 25769803776 ∷ 30064771072 ∷ 34359738368 ∷
    []

-- the size of a class
abbrev pub size_at : ℕ → ℕ
size_at class = slice_index class_sizes class

-- the class for a size: the least whose size isn't below it, where 0 counts as 1, and 121 where there is none
abbrev pub class_for : ℕ → ℕ
class_for n = position_or_len (λ size. nat_le (max n 1) size) class_sizes

-- a small class, whose regions lie in slabs
abbrev pub IsSmall : ℕ → Type 0
IsSmall class = class < 36

-- the least number of pages whose bytes are a multiple of the size, sought from 1 to 8
unfoldable pub least_pages : ℕ → ℕ
least_pages size =
    unwrap_or (find (λ pages. (4096 * pages) % size == 0) (1 ∷ 2 ∷ 3 ∷ 4 ∷ 5 ∷ 6 ∷ 7 ∷ 8 ∷ [])) 0

-- the pages of a small class's slab, or of a large class's extent
abbrev pub pages_at : ℕ → ℕ
pages_at class = if nat_lt class 36 then least_pages (size_at class) else size_at class / 4096

-- how many regions a small class's slab has
abbrev pub regions_at : ℕ → ℕ
regions_at class = (4096 * pages_at class) / size_at class

-- how many regions of a class a cache holds: twice a slab's, at least 20 and at most 200, and 20 of a large class
abbrev pub slots_at : ℕ → ℕ
slots_at class = if nat_lt class 36 then min 200 (max 20 (2 * regions_at class)) else 20

-- the largest power of two, at most 4096, that divides the size
unfoldable pub largest_align : ℕ → ℕ
largest_align size =
    unwrap_or
    (find (λ align. size % align == 0)
    (4096 ∷ 2048 ∷ 1024 ∷ 512 ∷ 256 ∷ 128 ∷ 64 ∷ 32 ∷ 16 ∷ 8 ∷ 4 ∷ 2 ∷ [])) 1

-- the alignment of a class's addresses, in bytes
abbrev pub align_at : ℕ → ℕ
align_at class = largest_align (size_at class)

-- an alignment that may be asked: a power of two from 1 to 2 ^ 30
abbrev pub IsAlignment : ℕ → Type 0
IsAlignment align = IsPowerOfTwo align × (align ≤ 2 ^ 30)

-- the class for a size at an alignment: that of the size rounded up to it, where the alignment is at most
-- a page and the class small, and else the larger of class 36 and the size's class
abbrev pub aligned_for : ℕ → ℕ → ℕ
aligned_for n align =
    let rounded = class_for (next_multiple_of (max n 1) align) in
    if nat_le align 4096 && nat_lt rounded 36 then rounded else max 36 (class_for n)
