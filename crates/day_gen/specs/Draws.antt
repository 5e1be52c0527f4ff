-- draws of random numbers: the outputs of PCG XSH RR 64/32 (M. E. O'Neill), words of 32 bits
use Rattle.std.specs.Prelude.{ℕ, zero, suc, ◌%◌}
use Rattle.rand_pcg.specs.Lcg.{Lcg, started, increment_of}
use Rattle.rand_pcg.specs.Pcg.{multiplier_64, pcg32}

-- the generator of the day with this number, on stream 7, before its first output
abbrev pub generator_of : ℕ → Lcg
generator_of number = started 64 multiplier_64 number (increment_of 64 7)

-- a number below k: the next output modulo k
unfoldable pub draw : Lcg → ℕ → ℕ
draw g k = (pcg32 g).0 % k

-- the generator after one draw: each takes one output
unfoldable pub after_draw : Lcg → Lcg
after_draw g = (pcg32 g).1

-- the generator after n draws
abbrev pub after : ℕ → Lcg → Lcg
after zero g = g
after (suc n) g = after n (after_draw g)
