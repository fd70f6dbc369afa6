-- The openers of the blocks, and which blocks a format allows.
use Rattle.std.specs.Prelude.{◌≡◌, ℕ, Bool, true, false, List, codes, Option, MatchOption, ◌≢◌}
use Rattle.jobs.specs.declared.openers.Block.{Block}
use Rattle.jobs.specs.declared.openers.Block.TheVariants as block
use Rattle.jobs.specs.declared.openers.Format.{Format}
use Rattle.jobs.specs.declared.openers.Format.TheVariants as format

abbrev pub block_word : Block → List ℕ
block_word block.Card = codes "card"
block_word block.Member = codes "member"
block_word block.Web = codes "web"
block_word block.Heel = codes "heel"
block_word block.Splice = codes "splice"
block_word block.List = codes "list"
block_word block.Coil = codes "coil"
block_word block.Press = codes "press"
block_word block.Strike = codes "strike"

-- a text of web joints has cards, members, web sheets and a list; a whole one has any block
abbrev pub allows : Format → Block → Bool
allows format.Whole b = true
allows format.Webs block.Card = true
allows format.Webs block.Member = true
allows format.Webs block.Web = true
allows format.Webs block.Heel = false
allows format.Webs block.Splice = false
allows format.Webs block.List = true
allows format.Webs block.Coil = false
allows format.Webs block.Press = false
allows format.Webs block.Strike = false

-- w opens no block of the format
abbrev pub OpensNone : Format → List ℕ → Type 0
OpensNone f w = (b : Block) → allows f b ≡ true → w ≢ block_word b

-- the block of the format that w opens, if any
abbrev pub Opens : Format → List ℕ → Option Block → Type 0
Opens f w r = MatchOption r (OpensNone f w) (λ b. (w ≡ block_word b) × (allows f b ≡ true))
