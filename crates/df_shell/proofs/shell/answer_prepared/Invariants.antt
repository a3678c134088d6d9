use Rattle.df_shell.proofs.shell.answer_prepared.Given as goal

-- the ledgers are the blanks
abbrev pub ghosts-serve-Acc-Ledger : goal.ghosts-serve-Acc-Ledger
ghosts-serve-Acc-Ledger g a = record { name = a.accepted.name; parts = a.accepted.parts }

abbrev pub ghosts-serve-Del-Ledger : goal.ghosts-serve-Del-Ledger
ghosts-serve-Del-Ledger g a = record { name = a.deleted.name; parts = a.deleted.parts }
