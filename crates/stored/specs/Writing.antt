-- What writing a block asks and leaves. Assumes nothing: these are definitions.
use Rattle.std.specs.Prelude.{ℕ, ◌*◌, ◌≤◌, ◌<◌, ◌≡◌, true, length, take, drop}
use Rattle.rules.specs.Basic.{Bytes}
use Rattle.rules.specs.Limits.{block_bytes, block_content}
use Rattle.rules.specs.declared.Kind.{Kind}
use Rattle.rules.specs.Stored.{block_body, all_zero}

-- a block of the content may be written
pub record Storable (number : ℕ) (content block : Bytes) : Type 0 where
  pub few : number < 256
  pub there : block_content * number ≤ length content
  pub short : length content ≤ 65535
  pub room : length block ≡ block_bytes

-- the body of a block stands, with zeros from `end` on
pub record PutBody (kind : Kind) (number : ℕ) (content block : Bytes) (end : ℕ) : Type 0 where
  pub body : take 510 block ≡ block_body kind number (length content) content
  pub within : end ≤ 510
  pub clean : all_zero (drop end (take 510 block)) ≡ true
