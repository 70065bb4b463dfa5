-- The words that a line may begin with.
use Rattle.std.specs.Prelude.{ℕ, cond, List, Some, None, codes, Option}
use Rattle.std.specs.Option.{option_map, option_or}
use Rattle.rulefile.specs.declared.keywords.Keyword.{Keyword}
use Rattle.rulefile.specs.declared.keywords.Keyword.TheVariants.{Storage, Store, Lookup, Entry, Rule}
use Rattle.rulefile.specs.declared.keywords.RuleKind.{RuleKind}
use Rattle.rulefile.specs.declared.keywords.RuleKind.TheVariants.{Single, Pair, Class, Break, Build, Ask}
use Rattle.rulefile.specs.declared.rules.EntryKind.{EntryKind}
use Rattle.rulefile.specs.declared.rules.EntryKind.TheVariants.{Set, Device, Deltas}
use Rattle.rulefile.specs.Words.{same_word}

-- the statements that stand before all others
abbrev pub opening_word : List ℕ → Option Keyword
opening_word w =
    cond (same_word w (codes "storage")) (Some Storage)
    (cond (same_word w (codes "store")) (Some Store)
    (cond (same_word w (codes "lookup")) (Some Lookup) None))

-- the statements that give a name
abbrev pub entry_word : List ℕ → Option EntryKind
entry_word w =
    cond (same_word w (codes "set")) (Some Set)
    (cond (same_word w (codes "device")) (Some Device)
    (cond (same_word w (codes "deltas")) (Some Deltas) None))

-- the other statements
abbrev pub rule_word : List ℕ → Option RuleKind
rule_word w =
    cond (same_word w (codes "single")) (Some Single)
    (cond (same_word w (codes "pair")) (Some Pair)
    (cond (same_word w (codes "class")) (Some Class)
    (cond (same_word w (codes "break")) (Some Break)
    (cond (same_word w (codes "build")) (Some Build)
    (cond (same_word w (codes "ask")) (Some Ask) None)))))

-- the statement that a line's first word stands for
abbrev pub keyword_of : List ℕ → Option Keyword
keyword_of w = option_or (option_or (opening_word w) (option_map Entry (entry_word w))) (option_map Rule (rule_word w))
