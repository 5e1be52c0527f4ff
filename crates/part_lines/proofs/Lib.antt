mod ReadWords
