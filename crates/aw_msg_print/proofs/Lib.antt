mod SentLines
